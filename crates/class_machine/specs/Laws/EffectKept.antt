-- What an instruction does is the same to a grown frame, unless it is Broken: once over all forms.
use Rattle.std.proofs.Common.{◌≡◌, ℕ, zero, suc, ◌+◌, ◌<◌, ◌≤◌, Bool, true, false, List, [], ◌∷◌, ◌++◌, length, map, Option, Some, None, refl, sym, ap, ◌∙◌, arith}
use Rattle.std.specs.Prelude.{max, ℤ, pos, ◌==◌, nat_le, slice_get, slice_set, if◌then◌else◌, reverse}
use Rattle.std.proofs.lemmas.Bool.Decides.{nat_tests}
use Rattle.std.specs.Int.{w8, w16, w32, w64, int_wrapping_add, int_wrapping_neg}
use Rattle.class_file.specs.Pool.{Reference}
use Rattle.class_file.specs.Code.{has_dimensions}
use Rattle.class_machine.specs.declared.kinds.Kind.{Kind}
use Rattle.class_machine.specs.declared.kinds.Access.{Access}
use Rattle.class_machine.specs.declared.kinds.Mode.{Mode}
use Rattle.class_machine.specs.declared.kinds.Conversion.{Conversion}
use Rattle.class_machine.specs.declared.kinds.Conversion.TheVariants.{IntToLong, LongToInt, IntToByte, IntToChar, IntToShort}
use Rattle.class_machine.specs.declared.kinds.Slots.{Slots}
use Rattle.class_machine.specs.declared.kinds.Slots.TheVariants.{Zero, One, Two}
use Rattle.class_machine.specs.declared.meaning.Basic.{Basic}
use Rattle.class_machine.specs.Values.{Name, Held, Value, Plain, Token, ReturnAddress, Local, Unset, Holds, Second, Content, content, highest, highest_local, fresh, filled_in, filled_local, kind_width, slots_of, is_wide, width, weight, same_kind, is_held, loads, stores}
use Rattle.class_machine.specs.Numbers.{divide, binary, shift, compare, same_int, low_signed, low_unsigned}
use Rattle.class_machine.specs.Descriptors.{kind_in, parameters_in}
use Rattle.class_machine.specs.Classes.{is_constructor}
use Rattle.class_machine.specs.Operations.{Operation, Do, Switch, Refer, ReferClass, FieldAccess, Invoke, New, NewReferenceArray, NewArrays, CheckCast, InstanceOf}
use Rattle.class_machine.specs.Effect
use Rattle.class_machine.specs.Effect.{Request, Setting, Effect, Broken, held_constant, basic_effect, effect}
use Rattle.class_machine.specs.Renaming.{renamed, renamed_local, more_locals, grown, grown_effect, Kept, roomier, is_bare}

module _ {P Q : Type 0} (f : P → Q) (extra : List (Local Q)) where
  abbrev r : Value P → Value Q
  r = renamed f

  abbrev rs : List (Value P) → List (Value Q)
  rs = map (renamed f)

  abbrev rl : List (Local P) → List (Local Q)
  rl = more_locals f extra

  abbrev K : Effect P → Effect Q → Type 0
  K = Kept f extra

  pub broken : {e' : Effect Q} → K Broken e'
  broken = record { keeps = λ ne. absurd (ne refl) }

  pub same : {e : Effect P} → K e (grown_effect f extra e)
  same = record { keeps = λ ne. refl }

  -- ---- tests

  pub if_kept : (b b' : Bool) (e : Effect P) (e' : Effect Q) → (b ≡ true → b' ≡ true) → K e e' → K (if b then e else Broken) (if b' then e' else Broken)
  if_kept true true e e' h k = k
  if_kept true false e e' h k = absurd (let same = h refl in cc)
  if_kept false b' e e' h k = broken

  pub choice_kept : (b : Bool) (e d : Effect P) (e' d' : Effect Q) → K e e' → K d d' → K (if b then e else d) (if b then e' else d')
  choice_kept true e d e' d' k l = k
  choice_kept false e d e' d' k l = l

  pub wide_kept : (b : Bool) (e : Effect P) (e' : Effect Q) → K e e' → K (if b then Broken else e) (if b then Broken else e')
  wide_kept true e e' k = broken
  wide_kept false e e' k = k

  pub same_kept : (b : Bool) (e : Effect P) (e' : Effect Q) → K e e' → K (if b then e else Broken) (if b then e' else Broken)
  same_kept b e e' k = if_kept b b e e' (λ h. h) k

  given_kept : (b b' : Bool) (A B : Type 0) (x : A) (y : B) (go : A → Effect P) (go' : B → Effect Q) → (b ≡ true → b' ≡ true) → K (go x) (go' y) → K (Effect.given (if b then Some x else None) go) (Effect.given (if b' then Some y else None) go')
  given_kept true true A B x y go go' h k = k
  given_kept true false A B x y go go' h k = absurd (let same = h refl in cc)
  given_kept false b' A B x y go go' h k = broken

  -- ---- operands

  pub wide-r : (v : Value P) → is_wide (r v) ≡ is_wide v
  wide-r (Plain h) = refl
  wide-r (Token class number) = refl
  wide-r (ReturnAddress p) = refl

  pub width-r : (v : Value P) → width (r v) ≡ width v
  width-r v = ap slots_of (wide-r v)

  pub weight-rs : (vs : List (Value P)) → weight (rs vs) ≡ weight vs
  weight-rs [] = refl
  weight-rs (v ∷ vs) = let a = width-r v in let b = weight-rs vs in omega arith

  pub rs-append : (xs ys : List (Value P)) → rs (xs ++ ys) ≡ rs xs ++ rs ys
  rs-append [] ys = refl
  rs-append (x ∷ xs) ys = ap (λ l. r x ∷ l) (rs-append xs ys)

  pub le_more : (a a' room more : ℕ) → a' ≡ a → nat_le a room ≡ true → nat_le a' (room + more) ≡ true
  le_more a a' room more e h = grind (arith, nat_tests)

  pub push_kept : (room more : ℕ) (v : Value P) (ops : List (Value P)) (go : List (Value P) → Effect P) (go' : List (Value Q) → Effect Q) →
      ((all : List (Value P)) → K (go all) (go' (rs all))) → K (Effect.push room v ops go) (Effect.push (room + more) (r v) (rs ops) go')
  push_kept room more v ops go go' h =
      given_kept _ _ (List (Value P)) (List (Value Q)) (v ∷ ops) (r v ∷ rs ops) go go' (le_more (width v + weight ops) (width (r v) + weight (rs ops)) room more (let a = width-r v in let b = weight-rs ops in omega arith)) (h (v ∷ ops))

  pub put_kept : (room more : ℕ) (vs : List (Value P)) (ops : List (Value P)) (go : List (Value P) → Effect P) (go' : List (Value Q) → Effect Q) →
      ((all : List (Value P)) → K (go all) (go' (rs all))) → K (Effect.put room vs ops go) (Effect.put (room + more) (rs vs) (rs ops) go')
  put_kept room more [] ops go go' h = h ops
  put_kept room more (v ∷ vs) ops go go' h =
      put_kept room more vs ops (λ all. Effect.push room v all go) (λ all. Effect.push (room + more) (r v) all go') (λ all. push_kept room more v all go go' h)

  pub room_kept : (room more : ℕ) (k : Kind) (ops : List (Value P)) (e : Effect P) (e' : Effect Q) →
      K e e' → K (Effect.room_for room k ops e) (Effect.room_for (room + more) k (rs ops) e')
  room_kept room more k ops e e' h =
      if_kept _ _ _ _ (le_more (kind_width k + weight ops) (kind_width k + weight (rs ops)) room more (let b = weight-rs ops in omega arith)) h

  pub pop_kept : (ops : List (Value P)) (go : Value P → List (Value P) → Effect P) (go' : Value Q → List (Value Q) → Effect Q) →
      ((v : Value P) (rest : List (Value P)) → K (go v rest) (go' (r v) (rs rest))) → K (Effect.pop ops go) (Effect.pop (rs ops) go')
  pop_kept [] go go' h = broken
  pop_kept (v ∷ ops) go go' h = h v ops

  pub int_kept : (v : Value P) (go : ℤ → Effect P) (go' : ℤ → Effect Q) → ((n : ℤ) → K (go n) (go' n)) → K (Effect.int_in v go) (Effect.int_in (r v) go')
  int_kept (Plain (Held.Int n)) go go' h = h n
  int_kept (Plain _) go go' h = broken
  int_kept (Token class number) go go' h = broken
  int_kept (ReturnAddress p) go go' h = broken

  pub long_kept : (v : Value P) (go : ℤ → Effect P) (go' : ℤ → Effect Q) → ((n : ℤ) → K (go n) (go' n)) → K (Effect.long_in v go) (Effect.long_in (r v) go')
  long_kept (Plain (Held.Long n)) go go' h = h n
  long_kept (Plain _) go go' h = broken
  long_kept (Token class number) go go' h = broken
  long_kept (ReturnAddress p) go go' h = broken

  pub held_kept : (k : Kind) (v : Value P) (go : Held → Effect P) (go' : Held → Effect Q) → ((x : Held) → K (go x) (go' x)) → K (Effect.held_in k v go) (Effect.held_in k (r v) go')
  held_kept k (Plain x) go go' h = same_kept (is_held k x) (go x) (go' x) (h x)
  held_kept k (Token class number) go go' h = broken
  held_kept k (ReturnAddress p) go go' h = broken

  pub reference_kept : (v : Value P) (go : Option Name → Effect P) (go' : Option Name → Effect Q) → ((a : Option Name) → K (go a) (go' a)) → K (Effect.reference_in v go) (Effect.reference_in (r v) go')
  reference_kept (Plain Held.Null) go go' h = h None
  reference_kept (Plain (Held.Reference a)) go go' h = h (Some a)
  reference_kept (Plain _) go go' h = broken
  reference_kept (Token class number) go go' h = broken
  reference_kept (ReturnAddress p) go go' h = broken

  pub address_kept : (v : Value P) (go : P → Effect P) (go' : Q → Effect Q) → ((p : P) → K (go p) (go' (f p))) → K (Effect.address_in v go) (Effect.address_in (r v) go')
  address_kept (Plain x) go go' h = broken
  address_kept (Token class number) go go' h = broken
  address_kept (ReturnAddress p) go go' h = h p

  pub pop_int_kept : (ops : List (Value P)) (go : ℤ → List (Value P) → Effect P) (go' : ℤ → List (Value Q) → Effect Q) →
      ((n : ℤ) (rest : List (Value P)) → K (go n rest) (go' n (rs rest))) → K (Effect.pop_int ops go) (Effect.pop_int (rs ops) go')
  pop_int_kept ops go go' h = pop_kept ops _ _ (λ v rest. int_kept v (λ n. go n rest) (λ n. go' n (rs rest)) (λ n. h n rest))

  pub pop_long_kept : (ops : List (Value P)) (go : ℤ → List (Value P) → Effect P) (go' : ℤ → List (Value Q) → Effect Q) →
      ((n : ℤ) (rest : List (Value P)) → K (go n rest) (go' n (rs rest))) → K (Effect.pop_long ops go) (Effect.pop_long (rs ops) go')
  pop_long_kept ops go go' h = pop_kept ops _ _ (λ v rest. long_kept v (λ n. go n rest) (λ n. go' n (rs rest)) (λ n. h n rest))

  pub pop_held_kept : (k : Kind) (ops : List (Value P)) (go : Held → List (Value P) → Effect P) (go' : Held → List (Value Q) → Effect Q) →
      ((x : Held) (rest : List (Value P)) → K (go x rest) (go' x (rs rest))) → K (Effect.pop_held k ops go) (Effect.pop_held k (rs ops) go')
  pop_held_kept k ops go go' h = pop_kept ops _ _ (λ v rest. held_kept k v (λ x. go x rest) (λ x. go' x (rs rest)) (λ x. h x rest))

  pub pop_reference_kept : (ops : List (Value P)) (go : Option Name → List (Value P) → Effect P) (go' : Option Name → List (Value Q) → Effect Q) →
      ((a : Option Name) (rest : List (Value P)) → K (go a rest) (go' a (rs rest))) → K (Effect.pop_reference ops go) (Effect.pop_reference (rs ops) go')
  pop_reference_kept ops go go' h = pop_kept ops _ _ (λ v rest. reference_kept v (λ a. go a rest) (λ a. go' a (rs rest)) (λ a. h a rest))

  pub pop_arguments_kept : (types : List (List ℕ)) (taken : List Held) (ops : List (Value P)) (go : List Held → List (Value P) → Effect P) (go' : List Held → List (Value Q) → Effect Q) →
      ((xs : List Held) (rest : List (Value P)) → K (go xs rest) (go' xs (rs rest))) → K (Effect.pop_arguments types taken ops go) (Effect.pop_arguments types taken (rs ops) go')
  pop_arguments_kept [] taken ops go go' h = h taken ops
  pop_arguments_kept (type ∷ types) taken ops go go' h = pop_held_kept (kind_in type) ops _ _ (λ x rest. pop_arguments_kept types (x ∷ taken) rest go go' h)

  pub pop_sizes_kept : (n : ℕ) (taken : List ℤ) (ops : List (Value P)) (go : List ℤ → List (Value P) → Effect P) (go' : List ℤ → List (Value Q) → Effect Q) →
      ((xs : List ℤ) (rest : List (Value P)) → K (go xs rest) (go' xs (rs rest))) → K (Effect.pop_sizes n taken ops go) (Effect.pop_sizes n taken (rs ops) go')
  pop_sizes_kept zero taken ops go go' h = h taken ops
  pop_sizes_kept (suc n) taken ops go go' h = pop_int_kept ops _ _ (λ x rest. pop_sizes_kept n (x ∷ taken) rest go go' h)

  pub pop_narrow_kept : (ops : List (Value P)) (go : Value P → List (Value P) → Effect P) (go' : Value Q → List (Value Q) → Effect Q) →
      ((v : Value P) (rest : List (Value P)) → K (go v rest) (go' (r v) (rs rest))) → K (Effect.pop_narrow ops go) (Effect.pop_narrow (rs ops) go')
  pop_narrow_kept ops go go' h = pop_kept ops _ _ (λ v rest. rw (wide-r v) (wide_kept (is_wide v) _ _ (h v rest)))

  pub pop_slots_kept : (n : Slots) (ops : List (Value P)) (go : List (Value P) → List (Value P) → Effect P) (go' : List (Value Q) → List (Value Q) → Effect Q) →
      ((vs rest : List (Value P)) → K (go vs rest) (go' (rs vs) (rs rest))) → K (Effect.pop_slots n ops go) (Effect.pop_slots n (rs ops) go')
  pop_slots_kept Zero ops go go' h = h [] ops
  pop_slots_kept One ops go go' h = pop_narrow_kept ops _ _ (λ v rest. h (v ∷ []) rest)
  pop_slots_kept Two ops go go' h =
      pop_kept ops _ _ (λ v rest. rw (wide-r v) (choice_kept (is_wide v) _ _ _ _ (h (v ∷ []) rest) (pop_narrow_kept rest _ _ (λ u under. h (v ∷ u ∷ []) under))))

  -- ---- locals

  pub get_grown : (ls : List (Local P)) (n : ℕ) (x : Local P) → slice_get ls n ≡ Some x → slice_get (rl ls) n ≡ Some (renamed_local f x)
  get_grown [] n x e = absurd cc
  get_grown (l ∷ ls) zero x e = let same : l ≡ x = cc in ap (λ y. Some (renamed_local f y)) same
  get_grown (l ∷ ls) (suc n) x e = get_grown ls n x e

  pub set_grown : (ls : List (Local P)) (n : ℕ) (x : Local P) → n < length ls → slice_set (rl ls) n (renamed_local f x) ≡ rl (slice_set ls n x)
  set_grown [] n x h = absurd (omega arith)
  set_grown (l ∷ ls) zero x h = refl
  set_grown (l ∷ ls) (suc n) x h = ap (λ t. renamed_local f l ∷ t) (set_grown ls n x (omega arith))

  pub length_grown : (ls : List (Local P)) → length ls ≤ length (rl ls)
  length_grown [] = omega arith
  length_grown (l ∷ ls) = let h = length_grown ls in omega arith

  pub length_set : (ls : List (Local P)) (n : ℕ) (x : Local P) → length (slice_set ls n x) ≡ length ls
  length_set [] n x = refl
  length_set (l ∷ ls) zero x = refl
  length_set (l ∷ ls) (suc n) x = ap suc (length_set ls n x)

  holds_kept_at : (ls : List (Local P)) (n : ℕ) (o : Option (Local P)) (go : Value P → Effect P) (go' : Value Q → Effect Q) → slice_get ls n ≡ o →
      ((v : Value P) → K (go v) (go' (r v))) → K (Effect.holds o go) (Effect.holds (slice_get (rl ls) n) go')
  holds_kept_at ls n (Some (Holds v)) go go' e h = rw (get_grown ls n (Holds v) e) (h v)
  holds_kept_at ls n (Some Unset) go go' e h = broken
  holds_kept_at ls n (Some Second) go go' e h = broken
  holds_kept_at ls n None go go' e h = broken

  pub holds_kept : (ls : List (Local P)) (n : ℕ) (go : Value P → Effect P) (go' : Value Q → Effect Q) →
      ((v : Value P) → K (go v) (go' (r v))) → K (Effect.holds (slice_get ls n) go) (Effect.holds (slice_get (rl ls) n) go')
  holds_kept ls n go go' h = holds_kept_at ls n (slice_get ls n) go go' refl h

  second_grown_at : (ls : List (Local P)) (n : ℕ) (o : Option (Local P)) → slice_get ls n ≡ o → Effect.is_second o ≡ true → Effect.is_second (slice_get (rl ls) n) ≡ true
  second_grown_at ls n (Some Second) e h = ap Effect.is_second (get_grown ls n Second e)
  second_grown_at ls n (Some Unset) e h = absurd cc
  second_grown_at ls n (Some (Holds v)) e h = absurd cc
  second_grown_at ls n None e h = absurd cc

  pub read_kept : (n : ℕ) (ls : List (Local P)) (go : Value P → Effect P) (go' : Value Q → Effect Q) →
      ((v : Value P) → K (go v) (go' (r v))) → K (Effect.read_local n ls go) (Effect.read_local n (rl ls) go')
  read_kept n ls go go' h =
      holds_kept ls n _ _ (λ v. rw (wide-r v) (choice_kept (is_wide v) _ _ _ _
      (if_kept _ _ _ _ (second_grown_at ls (n + 1) (slice_get ls (n + 1)) refl) (h v)) (h v)))

  with_grown : (n : ℕ) (v : Value P) (ls : List (Local P)) (b : Bool) → n + slots_of b ≤ length ls →
      (if b then slice_set (slice_set (rl ls) n (Holds (r v))) (n + 1) Second else slice_set (rl ls) n (Holds (r v)))
      ≡ rl (if b then slice_set (slice_set ls n (Holds v)) (n + 1) Second else slice_set ls n (Holds v))
  with_grown n v ls false le = set_grown ls n (Holds v) (omega arith)
  with_grown n v ls true le =
      let len = length_set ls n (Holds v) in
      ap (λ l. slice_set l (n + 1) Second) (set_grown ls n (Holds v) (omega arith)) ∙ set_grown (slice_set ls n (Holds v)) (n + 1) Second (omega arith)

  write_kept_at : (n : ℕ) (v : Value P) (ls : List (Local P)) (go : List (Local P) → Effect P) (go' : List (Local Q) → Effect Q) →
      ((set : List (Local P)) → K (go set) (go' (rl set))) → (b : Bool) → nat_le (n + width v) (length ls) ≡ b →
      K (Effect.given (if b then Some (Effect.with_local n v ls) else None) go) (Effect.write_local n (r v) (rl ls) go')
  write_kept_at n v ls go go' h true e =
      let le : n + width v ≤ length ls = grind (arith, nat_tests) in
      let more = length_grown ls in
      let test : nat_le (n + width v) (length (rl ls)) ≡ true = grind (arith, nat_tests) in
      rw (wide-r v, test, with_grown n v ls (is_wide v) le) (h (Effect.with_local n v ls))
  write_kept_at n v ls go go' h false e = broken

  pub write_kept : (n : ℕ) (v : Value P) (ls : List (Local P)) (go : List (Local P) → Effect P) (go' : List (Local Q) → Effect Q) →
      ((set : List (Local P)) → K (go set) (go' (rl set))) → K (Effect.write_local n v ls go) (Effect.write_local n (r v) (rl ls) go')
  write_kept n v ls go go' h = write_kept_at n v ls go go' h (nat_le (n + width v) (length ls)) refl

  -- ---- the forms

  branch_kept : (b : Bool) (ops : List (Value P)) (ls : List (Local P)) → K (Effect.branch b ops ls) (Effect.branch b (rs ops) (rl ls))
  branch_kept true ops ls = same
  branch_kept false ops ls = same

  push_on_kept : (room more : ℕ) (v : Value P) (ops : List (Value P)) (ls : List (Local P)) → K (Effect.push_on room v ops ls) (Effect.push_on (room + more) (r v) (rs ops) (rl ls))
  push_on_kept room more v ops ls = push_kept room more v ops (λ all. Effect.on all ls) (λ all. Effect.on all (rl ls)) (λ all. same)

  loads-r : (k : Kind) (v : Value P) → loads k (r v) ≡ loads k v
  loads-r k (Plain h) = refl
  loads-r k (Token class number) = refl
  loads-r k (ReturnAddress p) = refl

  stores-r : (k : Kind) (v : Value P) → stores k (r v) ≡ stores k v
  stores-r k (Plain h) = refl
  stores-r k (Token class number) = refl
  stores-r k (ReturnAddress p) = refl

  unless_null_kept : (a : Option Name) (go : Name → Effect P) (go' : Name → Effect Q) → ((x : Name) → K (go x) (go' x)) → K (Effect.unless_null a go) (Effect.unless_null a go')
  unless_null_kept None go go' h = same
  unless_null_kept (Some x) go go' h = h x

  unless_kept : (y : ℤ) (e : Effect P) (e' : Effect Q) → K e e' → K (Effect.unless_zero y e) (Effect.unless_zero y e')
  unless_kept y e e' k = choice_kept (same_int y (pos 0)) _ _ _ _ (same) k

  held_on_kept : (room more : ℕ) (h : Held) (ops : List (Value P)) (ls : List (Local P)) → K (Effect.push_on room (Plain h) ops ls) (Effect.push_on (room + more) (Plain h) (rs ops) (rl ls))
  held_on_kept room more h ops ls = push_on_kept room more (Plain h) ops ls

  convert_kept : (room more : ℕ) (c : Conversion) (ops : List (Value P)) (ls : List (Local P)) → K (Effect.convert room c ops ls) (Effect.convert (room + more) c (rs ops) (rl ls))
  convert_kept room more IntToLong ops ls = pop_int_kept ops _ _ (λ x rest. held_on_kept room more (Held.Long x) rest ls)
  convert_kept room more LongToInt ops ls = pop_long_kept ops _ _ (λ x rest. held_on_kept room more (Held.Int (low_signed w64 w32 x)) rest ls)
  convert_kept room more IntToByte ops ls = pop_int_kept ops _ _ (λ x rest. held_on_kept room more (Held.Int (low_signed w32 w8 x)) rest ls)
  convert_kept room more IntToChar ops ls = pop_int_kept ops _ _ (λ x rest. held_on_kept room more (Held.Int (low_unsigned w16 x)) rest ls)
  convert_kept room more IntToShort ops ls = pop_int_kept ops _ _ (λ x rest. held_on_kept room more (Held.Int (low_signed w32 w16 x)) rest ls)

  unmodelled_kept : (room more op : ℕ) (from : Kind) (both : Bool) (to : Kind) (ops : List (Value P)) → K (Effect.unmodelled room op from both to ops) (Effect.unmodelled (room + more) op from both to (rs ops))
  unmodelled_kept room more op from true to ops = pop_held_kept from ops _ _ (λ y rest. pop_held_kept from rest _ _ (λ x rest'. room_kept room more to rest' _ _ (same)))
  unmodelled_kept room more op from false to ops = pop_held_kept from ops _ _ (λ x rest. room_kept room more to rest _ _ (same))

  leave_kept : (k result : Option Kind) (ops : List (Value P)) → K (Effect.leave k result ops) (Effect.leave k result (rs ops))
  leave_kept None None ops = same
  leave_kept None (Some s) ops = broken
  leave_kept (Some k) None ops = broken
  leave_kept (Some k) (Some s) ops = pop_held_kept k ops _ _ (λ h rest. same_kept (same_kind k s) _ _ (same))

  -- ---- tokens

  highest-rs : (vs : List (Value P)) → highest (rs vs) ≡ highest vs
  highest-rs [] = refl
  highest-rs (Plain h ∷ vs) = ap (max 0) (highest-rs vs)
  highest-rs (Token class number ∷ vs) = ap (max number) (highest-rs vs)
  highest-rs (ReturnAddress p ∷ vs) = ap (max 0) (highest-rs vs)

  bare-highest : (ls : List (Local Q)) → is_bare ls ≡ true → highest_local ls ≡ 0
  bare-highest [] e = refl
  bare-highest (Unset ∷ ls) e = ap (max 0) (bare-highest ls e)
  bare-highest (Holds (Plain h) ∷ ls) e = ap (max 0) (bare-highest ls e)
  bare-highest (Holds (Token class number) ∷ ls) e = absurd cc
  bare-highest (Holds (ReturnAddress p) ∷ ls) e = ap (max 0) (bare-highest ls e)
  bare-highest (Second ∷ ls) e = ap (max 0) (bare-highest ls e)

  highest-rl : is_bare extra ≡ true → (ls : List (Local P)) → highest_local (rl ls) ≡ highest_local ls
  highest-rl bare [] = bare-highest extra bare
  highest-rl bare (Unset ∷ ls) = ap (max 0) (highest-rl bare ls)
  highest-rl bare (Holds (Plain h) ∷ ls) = ap (max 0) (highest-rl bare ls)
  highest-rl bare (Holds (Token class number) ∷ ls) = ap (max number) (highest-rl bare ls)
  highest-rl bare (Holds (ReturnAddress p) ∷ ls) = ap (max 0) (highest-rl bare ls)
  highest-rl bare (Second ∷ ls) = ap (max 0) (highest-rl bare ls)

  token_kept : (room more : ℕ) (class : List ℕ) (n n' : ℕ) (ops : List (Value P)) (ls : List (Local P)) → n' ≡ n →
      K (Effect.push room (Token class n) ops (λ all. Effect.Announce class (content all ls))) (Effect.push (room + more) (Token class n') (rs ops) (λ all. Effect.Announce class (content all (rl ls))))
  token_kept room more class n n' ops ls e =
      rw e (push_kept room more (Token class n) ops (λ all. Effect.Announce class (content all ls)) (λ all. Effect.Announce class (content all (rl ls))) (λ all. same))

  built_kept : (b : Bool) (r' : Reference) (class : List ℕ) (number : ℕ) (args : List Held) (c : Content P) →
      K (if b then Effect.Build r' class number args c else Broken) (if b then Effect.Build r' class number args (grown f extra c) else Broken)
  built_kept true r' class number args c = same
  built_kept false r' class number args c = broken

  received_kept : (special : Bool) (r' : Reference) (v : Value P) (args : List Held) (c : Content P) → K (Effect.received special r' v args c) (Effect.received special r' (r v) args (grown f extra c))
  received_kept special r' (Plain h) args c = reference_kept (Plain h) _ _ (λ a. same)
  received_kept true r' (Token class number) args c = built_kept (is_constructor r') r' class number args c
  received_kept false r' (Token class number) args c = broken
  received_kept special r' (ReturnAddress p) args c = broken

  invoke_on_kept : (special : Bool) (r' : Reference) (ops : List (Value P)) (ls : List (Local P)) → K (Effect.invoke_on special r' ops ls) (Effect.invoke_on special r' (rs ops) (rl ls))
  invoke_on_kept special r' ops ls = pop_arguments_kept (reverse (parameters_in r'.member.descriptor)) [] ops _ _ (λ args rest. pop_kept rest _ _ (λ v rest'. received_kept special r' v args (content rest' ls)))

  invoke_kept : (mode : Mode) (r' : Reference) (ops : List (Value P)) (ls : List (Local P)) → K (Effect.invoke mode r' ops ls) (Effect.invoke mode r' (rs ops) (rl ls))
  invoke_kept Mode.Static r' ops ls = pop_arguments_kept (reverse (parameters_in r'.member.descriptor)) [] ops _ _ (λ args rest. same)
  invoke_kept Mode.Special r' ops ls = invoke_on_kept true r' ops ls
  invoke_kept Mode.Virtual r' ops ls = invoke_on_kept false r' ops ls
  invoke_kept Mode.Interface r' ops ls = invoke_on_kept false r' ops ls

  access_kept : (room more : ℕ) (access : Access) (r' : Reference) (k : Kind) (ops : List (Value P)) (ls : List (Local P)) → K (Effect.access_field room access r' k ops ls) (Effect.access_field (room + more) access r' k (rs ops) (rl ls))
  access_kept room more Access.GetStatic r' k ops ls = room_kept room more k ops _ _ same
  access_kept room more Access.PutStatic r' k ops ls = pop_held_kept k ops _ _ (λ v rest. same)
  access_kept room more Access.GetField r' k ops ls = pop_reference_kept ops _ _ (λ a rest. room_kept room more k rest _ _ same)
  access_kept room more Access.PutField r' k ops ls = pop_held_kept k ops _ _ (λ v rest. pop_reference_kept rest _ _ (λ a rest'. same))

  enter_kept : (room more : ℕ) (ops : List (Value P)) (ls : List (Local P)) → K (Effect.enter room ops ls) (Effect.enter (room + more) (rs ops) (rl ls))
  enter_kept room more ops ls = if_kept _ _ _ _ (le_more (1 + weight ops) (1 + weight (rs ops)) room more (let b = weight-rs ops in omega arith)) same

  ask_kept : (request : Option Name → Request) (ops : List (Value P)) (ls : List (Local P)) → K (Effect.ask_of request ops ls) (Effect.ask_of request (rs ops) (rl ls))
  ask_kept request ops ls = pop_reference_kept ops _ _ (λ a rest. same)

  new_array_kept : (named : Option (List ℕ)) (type : List ℕ) (dims : ℕ) (ops : List (Value P)) (ls : List (Local P)) → K (Effect.new_array named type dims ops ls) (Effect.new_array named type dims (rs ops) (rl ls))
  new_array_kept named type dims ops ls = pop_sizes_kept dims [] ops _ _ (λ sizes rest. same)

  -- ---- the object of a token

  filled_if : (b : Bool) (h : Held) (class : List ℕ) (n : ℕ) → r (if b then Plain h else Token class n) ≡ (if b then Plain h else Token class n)
  filled_if true h class n = refl
  filled_if false h class n = refl

  filled-r : (t : ℕ) (h : Held) (v : Value P) → filled_in t h (r v) ≡ r (filled_in t h v)
  filled-r t h (Plain x) = refl
  filled-r t h (Token class n) = sym (filled_if (n == t) h class n)
  filled-r t h (ReturnAddress p) = refl

  filled-rs : (t : ℕ) (h : Held) (vs : List (Value P)) → map (filled_in t h) (rs vs) ≡ rs (map (filled_in t h) vs)
  filled-rs t h [] = refl
  filled-rs t h (v ∷ vs) = let a = filled-r t h v in let b = filled-rs t h vs in cc

  filled-bare : (t : ℕ) (h : Held) (ls : List (Local Q)) → is_bare ls ≡ true → map (filled_local t h) ls ≡ ls
  filled-bare t h [] e = refl
  filled-bare t h (Unset ∷ ls) e = ap (λ l. Unset ∷ l) (filled-bare t h ls e)
  filled-bare t h (Holds (Plain x) ∷ ls) e = ap (λ l. Holds (Plain x) ∷ l) (filled-bare t h ls e)
  filled-bare t h (Holds (Token class n) ∷ ls) e = absurd cc
  filled-bare t h (Holds (ReturnAddress p) ∷ ls) e = ap (λ l. Holds (ReturnAddress p) ∷ l) (filled-bare t h ls e)
  filled-bare t h (Second ∷ ls) e = ap (λ l. Second ∷ l) (filled-bare t h ls e)

  filled-local : (t : ℕ) (h : Held) (l : Local P) → filled_local t h (renamed_local f l) ≡ renamed_local f (filled_local t h l)
  filled-local t h Unset = refl
  filled-local t h (Holds v) = ap Holds (filled-r t h v)
  filled-local t h Second = refl

  filled-rl : is_bare extra ≡ true → (t : ℕ) (h : Held) (ls : List (Local P)) → map (filled_local t h) (rl ls) ≡ rl (map (filled_local t h) ls)
  filled-rl bare t h [] = filled-bare t h extra bare
  filled-rl bare t h (l ∷ ls) = let a = filled-local t h l in let b = filled-rl bare t h ls in cc

  -- every copy of the token becomes the object, in the grown frame as in the other
  pub built-grown : is_bare extra ≡ true → (t : ℕ) (h : Held) (c : Content P) →
      content (map (filled_in t h) (grown f extra c).operands) (map (filled_local t h) (grown f extra c).locals) ≡ grown f extra (content (map (filled_in t h) c.operands) (map (filled_local t h) c.locals))
  built-grown bare t h c = let a = filled-rs t h c.operands in let b = filled-rl bare t h c.locals in cc

  -- ---- all forms

  pub basic_kept : (s : Setting) (more : ℕ) (i : Basic) (ops : List (Value P)) (ls : List (Local P)) → K (basic_effect s i ops ls) (basic_effect (roomier more s) i (rs ops) (rl ls))
  basic_kept s more Basic.Nothing ops ls = same
  basic_kept s more (Basic.Constant c) ops ls = held_on_kept s.room more (held_constant c) ops ls
  basic_kept s more (Basic.Load k n) ops ls = read_kept n ls _ _ (λ v. rw (loads-r k v) (same_kept (loads k v) _ _ (push_on_kept s.room more v ops ls)))
  basic_kept s more (Basic.Store k n) ops ls = pop_kept ops _ _ (λ v rest. rw (stores-r k v) (same_kept (stores k v) _ _ (write_kept n v ls (λ set. Effect.on rest set) (λ set. Effect.on (rs rest) set) (λ set. same))))
  basic_kept s more (Basic.Pop n) ops ls = pop_slots_kept n ops _ _ (λ vs rest. same)
  basic_kept s more (Basic.Duplicate n under) ops ls =
      pop_slots_kept n ops _ _ (λ a rest. pop_slots_kept under rest _ _ (λ b rest'.
      put_kept s.room more a rest' (λ x. Effect.put s.room b x (λ y. Effect.put s.room a y (λ all. Effect.on all ls))) (λ x. Effect.put (s.room + more) (rs b) x (λ y. Effect.put (s.room + more) (rs a) y (λ all. Effect.on all (rl ls)))) (λ x.
      put_kept s.room more b x (λ y. Effect.put s.room a y (λ all. Effect.on all ls)) (λ y. Effect.put (s.room + more) (rs a) y (λ all. Effect.on all (rl ls))) (λ y.
      put_kept s.room more a y (λ all. Effect.on all ls) (λ all. Effect.on all (rl ls)) (λ all. same)))))
  basic_kept s more Basic.Swap ops ls =
      pop_narrow_kept ops _ _ (λ b rest. pop_narrow_kept rest _ _ (λ a rest'.
      push_kept s.room more b rest' (λ x. Effect.push_on s.room a x ls) (λ x. Effect.push_on (s.room + more) (r a) x (rl ls)) (λ x. push_on_kept s.room more a x ls)))
  basic_kept s more (Basic.IntBinary op) ops ls = pop_int_kept ops _ _ (λ y rest. pop_int_kept rest _ _ (λ x rest'. held_on_kept s.room more (Held.Int (binary w32 op x y)) rest' ls))
  basic_kept s more (Basic.LongBinary op) ops ls = pop_long_kept ops _ _ (λ y rest. pop_long_kept rest _ _ (λ x rest'. held_on_kept s.room more (Held.Long (binary w64 op x y)) rest' ls))
  basic_kept s more (Basic.IntDivide op) ops ls =
      pop_int_kept ops _ _ (λ y rest. pop_int_kept rest _ _ (λ x rest'. unless_kept y _ _ (held_on_kept s.room more (Held.Int (divide w32 op x y)) rest' ls)))
  basic_kept s more (Basic.LongDivide op) ops ls =
      pop_long_kept ops _ _ (λ y rest. pop_long_kept rest _ _ (λ x rest'. unless_kept y _ _ (held_on_kept s.room more (Held.Long (divide w64 op x y)) rest' ls)))
  basic_kept s more Basic.IntNegate ops ls = pop_int_kept ops _ _ (λ x rest. held_on_kept s.room more (Held.Int (int_wrapping_neg w32 x)) rest ls)
  basic_kept s more Basic.LongNegate ops ls = pop_long_kept ops _ _ (λ x rest. held_on_kept s.room more (Held.Long (int_wrapping_neg w64 x)) rest ls)
  basic_kept s more (Basic.IntShift op) ops ls = pop_int_kept ops _ _ (λ y rest. pop_int_kept rest _ _ (λ x rest'. held_on_kept s.room more (Held.Int (shift w32 op x y)) rest' ls))
  basic_kept s more (Basic.LongShift op) ops ls = pop_int_kept ops _ _ (λ y rest. pop_long_kept rest _ _ (λ x rest'. held_on_kept s.room more (Held.Long (shift w64 op x y)) rest' ls))
  basic_kept s more (Basic.Increment n by) ops ls = read_kept n ls _ _ (λ v. int_kept v _ _ (λ x. write_kept n (Plain (Held.Int (int_wrapping_add w32 x by))) ls (λ set. Effect.on ops set) (λ set. Effect.on (rs ops) set) (λ set. same)))
  basic_kept s more (Basic.Convert c) ops ls = convert_kept s.room more c ops ls
  basic_kept s more Basic.CompareLong ops ls = pop_long_kept ops _ _ (λ y rest. pop_long_kept rest _ _ (λ x rest'. held_on_kept s.room more (Held.Int (compare x y)) rest' ls))
  basic_kept s more (Basic.Unmodelled op from both to) ops ls = unmodelled_kept s.room more op from both to ops
  basic_kept s more (Basic.IfInt t) ops ls = pop_int_kept ops _ _ (λ x rest. branch_kept _ rest ls)
  basic_kept s more (Basic.IfInts t) ops ls = pop_int_kept ops _ _ (λ y rest. pop_int_kept rest _ _ (λ x rest'. branch_kept _ rest' ls))
  basic_kept s more (Basic.IfReferences b) ops ls = pop_reference_kept ops _ _ (λ y rest. pop_reference_kept rest _ _ (λ x rest'. branch_kept _ rest' ls))
  basic_kept s more (Basic.IfNull null) ops ls = pop_reference_kept ops _ _ (λ x rest. branch_kept _ rest ls)
  basic_kept s more Basic.Goto ops ls = same
  basic_kept s more Basic.Jsr ops ls = enter_kept s.room more ops ls
  basic_kept s more (Basic.Ret n) ops ls = read_kept n ls _ _ (λ v. address_kept v _ _ (λ p. same))
  basic_kept s more (Basic.Return k) ops ls = leave_kept k s.result ops
  basic_kept s more Basic.Throw ops ls = pop_reference_kept ops _ _ (λ a rest. unless_null_kept a _ _ (λ x. same))
  basic_kept s more (Basic.NewArray e) ops ls = new_array_kept _ _ 1 ops ls
  basic_kept s more (Basic.ArrayLoad e) ops ls = pop_int_kept ops _ _ (λ i rest. pop_reference_kept rest _ _ (λ a rest'. room_kept s.room more _ rest' _ _ same))
  basic_kept s more (Basic.ArrayStore e) ops ls = pop_held_kept _ ops _ _ (λ v rest. pop_int_kept rest _ _ (λ i rest'. pop_reference_kept rest' _ _ (λ a rest''. same)))
  basic_kept s more Basic.ArrayLength ops ls = ask_kept Effect.ArrayLength ops ls
  basic_kept s more Basic.EnterMonitor ops ls = ask_kept Effect.EnterMonitor ops ls
  basic_kept s more Basic.LeaveMonitor ops ls = ask_kept Effect.LeaveMonitor ops ls

  pub effect_kept : is_bare extra ≡ true → (s : Setting) (more : ℕ) (i : Operation) (ops : List (Value P)) (ls : List (Local P)) → K (effect s i ops ls) (effect (roomier more s) i (rs ops) (rl ls))
  effect_kept bare s more (Do b) ops ls = basic_kept s more b ops ls
  effect_kept bare s more (Switch keys) ops ls = pop_int_kept ops _ _ (λ x rest. same)
  effect_kept bare s more (Refer a) ops ls = held_on_kept s.room more (Held.Reference a) ops ls
  effect_kept bare s more (ReferClass class) ops ls = room_kept s.room more Kind.Reference ops (Effect.Ask (Effect.LoadClass class) (content {P = P} ops ls)) _ same
  effect_kept bare s more (FieldAccess access r') ops ls = access_kept s.room more access r' (kind_in r'.member.descriptor) ops ls
  effect_kept bare s more (Invoke mode r') ops ls = invoke_kept mode r' ops ls
  effect_kept bare s more (New class) ops ls =
      token_kept s.room more class (fresh ops ls) (fresh (rs ops) (rl ls)) ops ls (let a = highest-rs ops in let b = highest-rl bare ls in cc)
  effect_kept bare s more (NewReferenceArray class) ops ls = new_array_kept _ _ 1 ops ls
  effect_kept bare s more (NewArrays type dims) ops ls = same_kept (has_dimensions dims type) _ _ (new_array_kept _ _ dims ops ls)
  effect_kept bare s more (CheckCast class) ops ls = ask_kept (Effect.Cast class) ops ls
  effect_kept bare s more (InstanceOf class) ops ls = ask_kept (Effect.IsInstance class) ops ls
