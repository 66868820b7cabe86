-- The locals of a call.
use Rattle.std.specs.Prelude.{◌≡◌, ℕ, zero, suc, ◌+◌, ◌-◌, ◌<◌, ◌≤◌, Bool, true, false, if◌then◌else◌, nat_le, List, [], ◌∷◌, ◌++◌, map, replicate, take, drop, length, slice_set, refl}
use Rattle.std.proofs.Common.{sym, ap, ◌∙◌, arith, get_or}
use Rattle.std.specs.List.{AllByRecursion}
use Rattle.std.proofs.lemmas.Bool.{leb-true, le-leb}
use Rattle.std.proofs.lemmas.List.{map-append, append_assoc, length-replicate, length-append, take_more, take_all, take-append-drop, set_at}
use Rattle.class_file.specs.Pool.{Reference}
use Rattle.class_heads.specs.declared.types.ClassHead.{ClassHead}
use Rattle.class_machine.specs.ClassFiles.{Place}
use Rattle.class_machine.specs.Turn.{filled}
use Rattle.class_machine.specs.Values as machine
use Rattle.machine_values.specs.declared.names.Name.{Name}
use Rattle.machine_values.specs.declared.values.Local.{Local}
use Rattle.machine_values.specs.declared.values.Local.TheVariants.{Unset, Holds, Second}
use Rattle.machine_values.specs.declared.values.Value.{Value}
use Rattle.machine_values.specs.declared.values.Value.TheVariants.{Int, Long, Float, Double, Null, Reference as Pointer, Token, ReturnAddress}
use Rattle.machine_values.specs.Stacks.{is_wide, slots_of, width, weight}
use Rattle.machine_values.specs.Standing.{held, Settled}
use Rattle.machine_values.specs.States.{value_in, local_in, is_known, is_known_local}
use Rattle.machine_requests.specs.Growth.{settled_known}
use Rattle.machine_invocations.specs.Entering.{value_locals, filled_with, with_argument}

-- ---- widths

pub weight_more : (vs : List Value) (v : Value) → weight (vs ++ v ∷ []) ≡ weight vs + width v
weight_more [] v = omega arith
weight_more (u ∷ vs) v = let e = weight_more vs v in omega arith

pub weight_parts : (vs us : List Value) → weight (vs ++ us) ≡ weight vs + weight us
weight_parts [] us = omega arith
weight_parts (v ∷ vs) us = let e = weight_parts vs us in omega arith

pub width_least : (v : Value) → 1 ≤ width v
width_least v = by (is_wide v) where
  by : (b : Bool) → 1 ≤ slots_of b
  by true = omega arith
  by false = omega arith

module _ (heads : List ClassHead) (names : List Name) where
  wide_same : (v : Value) → machine.is_wide_held (held heads names v) ≡ is_wide v
  wide_same (Int n) = refl
  wide_same (Long n) = refl
  wide_same (Float bits) = refl
  wide_same (Double bits) = refl
  wide_same Null = refl
  wide_same (Pointer at) = refl
  wide_same (Token class number) = refl
  wide_same (ReturnAddress pc) = refl

  slots_same : (b : Bool) → machine.slots_of b ≡ slots_of b
  slots_same true = refl
  slots_same false = refl

  pub weight_same : (vs : List Value) → machine.arguments_width (map (held heads names) vs) ≡ weight vs
  weight_same [] = refl
  weight_same (v ∷ vs) = ap (λ n. n + machine.arguments_width (map (held heads names) vs)) (ap machine.slots_of (wide_same v) ∙ slots_same (is_wide v)) ∙ ap (λ n. width v + n) (weight_same vs)

  module _ (methods : ℕ → Reference) (method : ℕ) where
    value_same : (v : Value) → Settled (length names) v → value_in heads methods names method v ≡ machine.Plain (held heads names v)
    value_same (Int n) h = refl
    value_same (Long n) h = refl
    value_same (Float bits) h = refl
    value_same (Double bits) h = refl
    value_same Null h = refl
    value_same (Pointer at) h = refl
    value_same (Token class number) h = absurd (let no : false ≡ true = h in cc)
    value_same (ReturnAddress pc) h = absurd (let no : false ≡ true = h in cc)

    one_same : (b : Bool) (v : Value) (ls : List Local) (rest : List (machine.Local Place)) → value_in heads methods names method v ≡ machine.Plain (held heads names v) → map (local_in heads methods names method) ls ≡ rest
        → map (local_in heads methods names method) (if b then Holds v ∷ Second ∷ ls else Holds v ∷ ls)
        ≡ (if b then machine.Holds (machine.Plain (held heads names v)) ∷ machine.Second ∷ rest else machine.Holds (machine.Plain (held heads names v)) ∷ rest)
    one_same true v ls rest e same = ap (λ x. machine.Holds x ∷ machine.Second ∷ map (local_in heads methods names method) ls) e ∙ ap (λ xs. machine.Holds (machine.Plain (held heads names v)) ∷ machine.Second ∷ xs) same
    one_same false v ls rest e same = ap (λ x. machine.Holds x ∷ map (local_in heads methods names method) ls) e ∙ ap (λ xs. machine.Holds (machine.Plain (held heads names v)) ∷ xs) same

    arguments_same : (vs : List Value) → AllByRecursion (Settled (length names)) vs → map (local_in heads methods names method) (value_locals vs) ≡ machine.argument_locals (map (held heads names) vs)
    arguments_same [] h = refl
    arguments_same (v ∷ vs) h =
        one_same (is_wide v) v (value_locals vs) (machine.argument_locals (map (held heads names) vs)) (value_same v h.0) (arguments_same vs h.1)
        ∙ ap (λ (b : Bool). if b then machine.Holds (machine.Plain (held heads names v)) ∷ machine.Second ∷ machine.argument_locals (map (held heads names) vs)
        else machine.Holds (machine.Plain (held heads names v)) ∷ machine.argument_locals (map (held heads names) vs)) (sym (wide_same v))

    unset_same : (n : ℕ) → map (local_in heads methods names method) (replicate n Unset) ≡ replicate n machine.Unset
    unset_same zero = refl
    unset_same (suc n) = ap (λ ls. machine.Unset ∷ ls) (unset_same n)

    pub filled_same : (count : ℕ) (vs : List Value) → AllByRecursion (Settled (length names)) vs → map (local_in heads methods names method) (filled_with count vs) ≡ filled count (map (held heads names) vs)
    filled_same count vs h =
        map-append (local_in heads methods names method) (value_locals vs) (replicate (count - weight vs) Unset)
        ∙ ap (λ ls. ls ++ map (local_in heads methods names method) (replicate (count - weight vs) Unset)) (arguments_same vs h)
        ∙ ap (λ ls. machine.argument_locals (map (held heads names) vs) ++ ls) (unset_same (count - weight vs))
        ∙ ap (λ n. machine.argument_locals (map (held heads names) vs) ++ replicate (count - n) machine.Unset) (sym (weight_same vs))

-- ---- known values

known_unset : (count n : ℕ) → AllByRecursion (λ l. is_known_local count l ≡ true) (replicate n Unset)
known_unset count zero = tt
known_unset count (suc n) = (refl, known_unset count n)

front_known : (count : ℕ) (b : Bool) (v : Value) (front ls : List Local) → is_known count v ≡ true → AllByRecursion (λ l. is_known_local count l ≡ true) (front ++ ls)
    → AllByRecursion (λ l. is_known_local count l ≡ true) ((if b then Holds v ∷ Second ∷ front else Holds v ∷ front) ++ ls)
front_known count true v front ls k h = (k, (refl, h))
front_known count false v front ls k h = (k, h)

known_rest : (count : ℕ) (vs : List Value) (ls : List Local) → AllByRecursion (Settled count) vs → AllByRecursion (λ l. is_known_local count l ≡ true) ls → AllByRecursion (λ l. is_known_local count l ≡ true) (value_locals vs ++ ls)
known_rest count [] ls h g = g
known_rest count (v ∷ vs) ls h g = front_known count (is_wide v) v (value_locals vs) ls (settled_known count v h.0) (known_rest count vs ls h.1 g)

pub known_filled : (count n : ℕ) (vs : List Value) → AllByRecursion (Settled count) vs → AllByRecursion (λ l. is_known_local count l ≡ true) (filled_with n vs)
known_filled count n vs h = known_rest count vs (replicate (n - weight vs) Unset) h (known_unset count (n - weight vs))

-- ---- one argument after the other

length_locals : (vs : List Value) → length (value_locals vs) ≡ weight vs
length_locals [] = refl
length_locals (v ∷ vs) = by (is_wide v) (length_locals vs) where
  by : (b : Bool) → length (value_locals vs) ≡ weight vs → length (if b then Holds v ∷ Second ∷ value_locals vs else Holds v ∷ value_locals vs) ≡ slots_of b + weight vs
  by true e = omega arith
  by false e = omega arith

front_more : (b : Bool) (v : Value) (front more : List Local) → (if b then Holds v ∷ Second ∷ front else Holds v ∷ front) ++ more ≡ (if b then Holds v ∷ Second ∷ (front ++ more) else Holds v ∷ (front ++ more))
front_more true v front more = refl
front_more false v front more = refl

locals_more : (vs : List Value) (v : Value) → value_locals (vs ++ v ∷ []) ≡ value_locals vs ++ value_locals (v ∷ [])
locals_more [] v = refl
locals_more (u ∷ vs) v =
    ap (λ ls. if is_wide u then Holds u ∷ Second ∷ ls else Holds u ∷ ls) (locals_more vs v) ∙ sym (front_more (is_wide u) u (value_locals vs) (value_locals (v ∷ [])))

-- the next argument takes the first unset ones
pub set_narrow : (count : ℕ) (vs : List Value) (v : Value) → is_wide v ≡ false → weight vs < count → slice_set (filled_with count vs) (weight vs) (Holds v) ≡ filled_with count (vs ++ v ∷ [])
set_narrow count vs v narrow less =
    let one : width v ≡ 1 = ap slots_of narrow in
    let more = weight_more vs v in
    let split : count - weight vs ≡ suc (count - weight (vs ++ v ∷ [])) = omega arith in
    ap (λ n. slice_set (value_locals vs ++ replicate n Unset) (weight vs) (Holds v)) split
    ∙ set_at (value_locals vs) Unset (replicate (count - weight (vs ++ v ∷ [])) Unset) (Holds v) (weight vs) (length_locals vs)
    ∙ sym (append_assoc (value_locals vs) (Holds v ∷ []) (replicate (count - weight (vs ++ v ∷ [])) Unset))
    ∙ ap (λ ls. (value_locals vs ++ ls) ++ replicate (count - weight (vs ++ v ∷ [])) Unset) (sym (ap (λ (b : Bool). if b then Holds v ∷ Second ∷ [] else Holds v ∷ []) narrow))
    ∙ ap (λ ls. ls ++ replicate (count - weight (vs ++ v ∷ [])) Unset) (sym (locals_more vs v))

pub set_wide : (count : ℕ) (vs : List Value) (v : Value) → is_wide v ≡ true → weight vs + 1 < count → slice_set (slice_set (filled_with count vs) (weight vs) (Holds v)) (weight vs + 1) Second ≡ filled_with count (vs ++ v ∷ [])
set_wide count vs v wide less =
    let two : width v ≡ 2 = ap slots_of wide in
    let more = weight_more vs v in
    let split : count - weight vs ≡ suc (suc (count - weight (vs ++ v ∷ []))) = omega arith in
    let rest = replicate (count - weight (vs ++ v ∷ [])) Unset in
    let len : length (value_locals vs ++ Holds v ∷ []) ≡ weight vs + 1 = let n = length-append (value_locals vs) (Holds v ∷ []) in let e = length_locals vs in omega arith in
    ap (λ n. slice_set (slice_set (value_locals vs ++ replicate n Unset) (weight vs) (Holds v)) (weight vs + 1) Second) split
    ∙ ap (λ ls. slice_set ls (weight vs + 1) Second) (set_at (value_locals vs) Unset (Unset ∷ rest) (Holds v) (weight vs) (length_locals vs))
    ∙ ap (λ ls. slice_set ls (weight vs + 1) Second) (sym (append_assoc (value_locals vs) (Holds v ∷ []) (Unset ∷ rest)))
    ∙ set_at (value_locals vs ++ Holds v ∷ []) Unset rest Second (weight vs + 1) len
    ∙ append_assoc (value_locals vs) (Holds v ∷ []) (Second ∷ rest)
    ∙ sym (append_assoc (value_locals vs) (Holds v ∷ Second ∷ []) rest)
    ∙ ap (λ ls. (value_locals vs ++ ls) ++ rest) (sym (ap (λ (b : Bool). if b then Holds v ∷ Second ∷ [] else Holds v ∷ []) wide))
    ∙ ap (λ ls. ls ++ rest) (sym (locals_more vs v))

pub length_filled : (count : ℕ) (vs : List Value) → weight vs ≤ count → length (filled_with count vs) ≡ count
length_filled count vs h =
    let n = length-append (value_locals vs) (replicate (count - weight vs) Unset) in let m = length-replicate (count - weight vs) Unset in let e = length_locals vs in omega arith

pub put_next : (count : ℕ) (vs : List Value) (v : Value) → weight vs + width v ≤ count → with_argument (weight vs) v (filled_with count vs) ≡ filled_with count (vs ++ v ∷ [])
put_next count vs v h = by (is_wide v) refl where
  by : (b : Bool) → is_wide v ≡ b → (if b then slice_set (slice_set (filled_with count vs) (weight vs) (Holds v)) (weight vs + 1) Second else slice_set (filled_with count vs) (weight vs) (Holds v)) ≡ filled_with count (vs ++ v ∷ [])
  by true wide = set_wide count vs v wide (let two : width v ≡ 2 = ap slots_of wide in omega arith)
  by false narrow = set_narrow count vs v narrow (let one : width v ≡ 1 = ap slots_of narrow in omega arith)

-- ---- one argument after the other

pub weight_next : (vs : List Value) (i : ℕ) (d : Value) (n : ℕ) → i < length vs → n ≡ width (get_or vs i d) → weight (take (i + 1) vs) ≡ weight (take i vs) + n
weight_next vs i d n h e = ap weight (take_more vs i d h) ∙ weight_more (take i vs) (get_or vs i d) ∙ ap (λ x. weight (take i vs) + x) (sym e)

pub weight_front : (vs : List Value) (i : ℕ) → weight (take i vs) ≤ weight vs
weight_front vs i = let e = ap weight (take-append-drop i vs) in let n = weight_parts (take i vs) (drop i vs) in omega arith

-- so many arguments are locals
pub record Fills (given : List Value) (count index at : ℕ) (locals : List Local) : Type 0 where
  pub at_is : at ≡ weight (take index given)
  pub locals_are : locals ≡ filled_with count (take index given)

module _ (given : List Value) (count : ℕ) where
  pub fills_first : (locals : List Local) → locals ≡ replicate count Unset → Fills given count 0 0 locals
  fills_first locals e = record { at_is = refl; locals_are = e ∙ ap (λ n. replicate n Unset) (let n : count ≡ count - 0 = omega arith in n) }

  pub length_is : (index at : ℕ) (locals : List Local) → Fills given count index at locals → weight given ≤ count → length locals ≡ count
  length_is index at locals is few = let front = weight_front given index in ap length is.locals_are ∙ length_filled count (take index given) (omega arith)

  module _ (index at : ℕ) (locals : List Local) (v : Value) (is : Fills given count index at locals) (within : index < length given) (here : v ≡ get_or given index v) (few : weight given ≤ count) where
    pub place_there : at + width v ≤ length locals
    place_there =
        let next = weight_next given index v (width v) within (ap width here) in
        let front = weight_front given (index + 1) in
        let some = weight_front given index in
        let len = ap length is.locals_are ∙ length_filled count (take index given) (omega arith) in
        let a = is.at_is in omega arith

    pub fills_next : Fills given count (index + 1) (at + width v) (with_argument at v locals)
    fills_next =
        let next = weight_next given index v (width v) within (ap width here) in
        let front = weight_front given (index + 1) in
        let more = take_more given index v within ∙ ap (λ x. take index given ++ x ∷ []) (sym here) in
        record {
          at_is = let a = is.at_is in omega arith;
          locals_are = ap (λ n. with_argument n v locals) is.at_is ∙ ap (with_argument (weight (take index given)) v) is.locals_are ∙ put_next count (take index given) v (omega arith) ∙ ap (filled_with count) (sym more);
        }

  pub fills_all : (index at : ℕ) (locals : List Local) → Fills given count index at locals → length given ≤ index → locals ≡ filled_with count given
  fills_all index at locals is h = is.locals_are ∙ ap (filled_with count) (take_all index given h)

-- ---- whether arguments fit

pub over : (a b : ℕ) → b < a → false ≡ nat_le a b
over a b h = by (nat_le a b) refl where
  by : (x : Bool) → nat_le a b ≡ x → false ≡ x
  by false e = refl
  by true e = absurd (let le = leb-true a b e in omega arith)

pub under : (a b : ℕ) → a ≤ b → true ≡ nat_le a b
under a b h = sym (le-leb a b h)
