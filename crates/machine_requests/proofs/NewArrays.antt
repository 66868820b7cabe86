-- New arrays, and the objects that stand for classes.
use Rattle.std.specs.Prelude.{◌≡◌, ℕ, zero, suc, ◌||◌, Bool, true, false, if◌then◌else◌, nat_lt, List, [], ◌∷◌, ◌++◌, map, replicate, length, slice_get, Option, Some, None, refl, pos, negsuc}
use Rattle.std.specs.List.{AllByRecursion}
use Rattle.std.proofs.Common.{sym, ◌∙◌, ap, subst, arith, append-nil}
use Rattle.std.proofs.lemmas.Bool.{lt-ltb, ltb-true}
use Rattle.std.specs.Option.{option_map}
use Rattle.std.proofs.lemmas.Option.{none-some, same_Some}
use Rattle.aj_names.specs.declared.types.Base.{Base}
use Rattle.aj_names.specs.declared.types.Base.TheVariants as base
use Rattle.aj_names.specs.declared.types.FieldType.{FieldType}
use Rattle.class_heads.specs.declared.types.ClassHead.{ClassHead}
use Rattle.class_machine.specs.declared.kinds.Element.{Element}
use Rattle.class_machine.specs.declared.kinds.Fault.{Fault}
use Rattle.class_machine.specs.Values as machine
use Rattle.class_machine.specs.Values.{Held}
use Rattle.class_machine.specs.Descriptors.{held_in, blank}
use Rattle.class_machine.specs.World as worlds
use Rattle.class_machine.specs.World.{World, with_object, set_object, with_changed, next_name}
use Rattle.class_machine.specs.Effect.{LoadClass, MakeArray}
use Rattle.class_machine.specs.Answers as answers
use Rattle.class_machine.specs.Answers.{is_negative, in_turn, with_elements, make_arrays, new_arrays}
use Rattle.machine_values.specs.declared.values.Ref.{Ref}
use Rattle.machine_values.specs.declared.values.Value.{Value}
use Rattle.machine_values.specs.declared.values.Value.TheVariants.{Null, Reference as Pointer}
use Rattle.machine_values.specs.declared.names.Maker.{Maker}
use Rattle.machine_values.specs.declared.names.Maker.TheVariants.{Array}
use Rattle.machine_values.specs.declared.names.Name.{Name}
use Rattle.machine_values.specs.declared.names.Name.TheVariants.{ClassObject, Literal}
use Rattle.machine_values.specs.declared.content.Content.{Content}
use Rattle.machine_values.specs.declared.content.Content.TheVariants.{Values}
use Rattle.machine_values.specs.First.{first_element, first_of_base}
use Rattle.machine_values.specs.NameLaws.{name_equal, place_of-within}
use Rattle.machine_values.specs.NumberLaws.{made_alike}
use Rattle.machine_values.specs.StandingLaws.{length-push}
use Rattle.machine_values.specs.Things.{Things, made, same_name, next_name as kept_name, with_made, place_of, placed_at, with_constant}
use Rattle.machine_values.specs.Types.{type_name}
use Rattle.machine_values.specs.Standing.{machine_name, name_in, held, Settled}
use Rattle.machine_requests.specs.declared.reply.Reply.TheVariants.{Gives, Faults}
use Rattle.machine_requests.specs.Telling.{is_array_type, is_class_type}
use Rattle.machine_requests.specs.TellingLaws.{all_told}
use Rattle.machine_requests.specs.Shares.{Others, Shares}
use Rattle.machine_requests.specs.Growing.{make_shares, constant_shares}
use Rattle.machine_requests.specs.Objects.{IsThere, Finds}
use Rattle.machine_requests.specs.Replies.{Replies, IsAnswer, IsLonger}
use Rattle.machine_requests.specs.Arrays.{base_element, array_element}
use Rattle.machine_requests.proofs.ArrayLaws.{held_in_array}
use Rattle.machine_requests.proofs.Counts.{same_itself}

abbrev pub ref : ℕ → Ref
ref n = record { 0 = n }

-- ---- the first elements

pub blank_base : (heads : List ClassHead) (names : List Name) (b : Base) → blank (base_element b) ≡ held heads names (first_of_base b)
blank_base heads names base.Boolean = refl
blank_base heads names base.Byte = refl
blank_base heads names base.Char = refl
blank_base heads names base.Short = refl
blank_base heads names base.Int = refl
blank_base heads names base.Long = refl
blank_base heads names base.Float = refl
blank_base heads names base.Double = refl
blank_base heads names (base.Class name) = refl

blank_element : (heads : List ClassHead) (names : List Name) (type : FieldType) → blank (array_element type) ≡ held heads names (first_element type)
blank_element heads names type = by (nat_lt 1 type.dims) where
  by : (more : Bool) → blank (if more then Element.Reference else base_element type.base) ≡ held heads names (if more then Null else first_of_base type.base)
  by true = refl
  by false = blank_base heads names type.base

pub settled_base : (n : ℕ) (b : Base) → Settled n (first_of_base b)
settled_base n base.Boolean = refl
settled_base n base.Byte = refl
settled_base n base.Char = refl
settled_base n base.Short = refl
settled_base n base.Int = refl
settled_base n base.Long = refl
settled_base n base.Float = refl
settled_base n base.Double = refl
settled_base n (base.Class name) = refl

settled_element : (n : ℕ) (type : FieldType) → Settled n (first_element type)
settled_element n type = by (nat_lt 1 type.dims) where
  by : (more : Bool) → Settled n (if more then Null else first_of_base type.base)
  by true = refl
  by false = settled_base n type.base

all_settled : (n count : ℕ) (v : Value) → Settled n v → AllByRecursion (Settled n) (replicate count v)
all_settled n zero v h = tt
all_settled n (suc count) v h = (h, all_settled n count v h)

map_replicate : (f : Value → Held) (n : ℕ) (v : Value) → map f (replicate n v) ≡ replicate n (f v)
map_replicate f zero v = refl
map_replicate f (suc n) v = ap (λ l. f v ∷ l) (map_replicate f n v)

in_turn_alike : (v : Held) (n : ℕ) (w : World) → in_turn (λ w. (v, w)) n w ≡ (replicate n v, w)
in_turn_alike v zero w = refl
in_turn_alike v (suc n) w = ap (λ (p : List Held × World). (v ∷ p.0, p.1)) (in_turn_alike v n w)

-- ---- one array

not_negative : (n : ℕ) → is_negative (pos n) ≡ false
not_negative n = by (nat_lt n 0) refl where
  by : (below : Bool) → nat_lt n 0 ≡ below → below ≡ false
  by true e = absurd (let below = ltb-true n 0 e in omega arith)
  by false e = refl

made_once : (w : World) (type : List ℕ) (n : ℕ) → make_arrays type (pos n ∷ []) w ≡ (machine.Reference (next_name w type), with_object w (next_name w type) (worlds.Array (replicate n (blank (held_in type)))))
made_once w type n =
    let a = next_name w type in
    let v = blank (held_in type) in
    ap (with_elements a) (in_turn_alike v n (with_object w a (worlds.Array [])))
    ∙ ap (λ hit. (machine.Reference a, record w { heap = if hit then (a, worlds.Array (replicate n v)) ∷ w.heap else (a, worlds.Array []) ∷ with_changed w.heap a (worlds.Array (replicate n v)) })) (same_itself a)

abbrev judged : Bool → Held × World → answers.Reply
judged bad made = if bad then answers.Faults Fault.NegativeArraySize else answers.Gives made.0 made.1

or_none : (b : Bool) → b ≡ false → (b || false) ≡ false
or_none true e = e
or_none false e = refl

pub array_answer : (w : World) (type : List ℕ) (n : ℕ) → new_arrays w type (pos n ∷ []) ≡ answers.Gives (machine.Reference (next_name w type)) (with_object w (next_name w type) (worlds.Array (replicate n (blank (held_in type)))))
array_answer w type n =
    ap (λ bad. judged bad (make_arrays type (pos n ∷ []) w)) (or_none (is_negative (pos n)) (not_negative n)) ∙ ap (judged false) (made_once w type n)

pub last_name : (heads : List ClassHead) (names : List Name) (x : Name) → name_in heads (slice_get (names ++ x ∷ []) (length names)) ≡ machine_name heads x
last_name heads [] x = refl
last_name heads (name ∷ names) x = last_name heads names x

pub array_negative : (things : Things) (others : Others) (named : Option (List ℕ)) (type : List ℕ) (n : ℕ) → IsAnswer things others (λ s names. MakeArray named type (negsuc n ∷ [])) things others (Faults Fault.NegativeArraySize)
array_negative things others named type n s w distinct shares = (refl, shares)

pub array_made : (things : Things) (others : Others) (named : Option (List ℕ)) (type : FieldType) (n : ℕ) → is_array_type type ≡ true
    → IsAnswer things others (λ s names. MakeArray named (type_name type) (pos n ∷ [])) (with_made things (Array type) (Values (replicate n (first_element type)))).1 others (Gives (Pointer (ref (length things.names))))
array_made things others named type n fit s w distinct shares =
    let vs = replicate n (first_element type) in
    let things' = (with_made things (Array type) (Values vs)).1 in
    let x = kept_name things.names (Array type) in
    let hs = replicate n (blank (held_in (type_name type))) in
    let elements : map (held s.heads things.names) vs ≡ hs =
    map_replicate (held s.heads things.names) n (first_element type)
    ∙ ap (λ (h : Held). replicate n h) (sym (ap blank (held_in_array type fit) ∙ blank_element s.heads things.names type)) in
    let told = all_told s.heads distinct (Array type) things.names fit shares.fit in
    let numbers : worlds.made w.heap (type_name type) ≡ made things.names (Array type) = made_alike s.heads s.classes.fields things w.heap (Array type) shares.heap.objects told in
    let settled = all_settled (length things.names) n (first_element type) (settled_element (length things.names) type) in
    let after : Shares s things' others (with_object w (next_name w (type_name type)) (worlds.Array hs)) =
    subst (λ (l : List Held). Shares s things' others (with_object w (next_name w (type_name type)) (worlds.Array l))) elements (make_shares s things others w (Array type) (Values vs) distinct shares fit settled) in
    subst (λ (r : answers.Reply). Replies s things' others w (Gives (Pointer (ref (length things.names)))) r) (sym (array_answer w (type_name type) n)) (
      ap machine.Reference (last_name s.heads things.names x ∙ ap (λ k. machine.Made (type_name type) (suc k)) (sym numbers)),
      lt-ltb (length things.names) (length things'.names) (let more = length-push things.names x in omega arith),
      after,
    )

-- ---- objects of classes

name_at_place : (heads : List ClassHead) (names : List Name) (x : Name) (place : ℕ) → place_of names x ≡ Some place → name_in heads (slice_get names place) ≡ machine_name heads x
name_at_place heads [] x place h = absurd (none-some place h)
name_at_place heads (name ∷ names) x place h = by (same_name x name) refl h (place_of names x) refl (name_at_place heads names x) where
  later : (o : Option ℕ) → place_of names x ≡ o → option_map suc o ≡ Some place → ((i : ℕ) → place_of names x ≡ Some i → name_in heads (slice_get names i) ≡ machine_name heads x)
      → name_in heads (slice_get (name ∷ names) place) ≡ machine_name heads x
  later None f g rest = absurd (none-some place g)
  later (Some i) f g rest = ap (λ j. name_in heads (slice_get (name ∷ names) j)) (sym (same_Some (suc i) place g)) ∙ rest i f

  by : (hit : Bool) → same_name x name ≡ hit → (if hit then Some 0 else option_map suc (place_of names x)) ≡ Some place → (o : Option ℕ) → place_of names x ≡ o
      → ((i : ℕ) → place_of names x ≡ Some i → name_in heads (slice_get names i) ≡ machine_name heads x) → name_in heads (slice_get (name ∷ names) place) ≡ machine_name heads x
  by true e k o f rest = ap (λ i. name_in heads (slice_get (name ∷ names) i)) (sym (same_Some 0 place k)) ∙ ap (machine_name heads) (sym (name_equal x name e))
  by false e k o f rest = later o f (ap (option_map suc) (sym f) ∙ k) rest

pub class_given : (things : Things) (others : Others) (type : FieldType) → is_class_type type ≡ true
    → IsAnswer things others (λ s names. LoadClass (type_name type)) (with_constant things (ClassObject type)).1 others (Gives (Pointer (ref (with_constant things (ClassObject type)).0)))
class_given things others type fit s w distinct shares = by (place_of things.names (ClassObject type)) refl (constant_shares s things others w (ClassObject type) distinct shares refl fit) where
  by : (o : Option ℕ) → place_of things.names (ClassObject type) ≡ o → Shares s (placed_at things (ClassObject type) o).1 others w
      → Replies s (placed_at things (ClassObject type) o).1 others w (Gives (Pointer (ref (placed_at things (ClassObject type) o).0))) (answers.Gives (machine.Reference (machine.ClassObject (type_name type))) w)
  by None e after = (
    ap machine.Reference (last_name s.heads things.names (ClassObject type)),
    lt-ltb (length things.names) (length (things.names ++ ClassObject type ∷ [])) (let more = length-push things.names (ClassObject type) in omega arith),
    after,
  )
  by (Some place) e after = (
    ap machine.Reference (name_at_place s.heads things.names (ClassObject type) place e),
    lt-ltb place (length things.names) (place_of-within things.names (ClassObject type) place e),
    after,
  )

-- the String of a literal
pub literal_found : (things : Things) (units : List ℕ) → Finds (machine.Literal units) things (with_constant things (Literal units)).1 (ref (with_constant things (Literal units)).0)
literal_found things units s others w distinct shares = by (place_of things.names (Literal units)) refl (constant_shares s things others w (Literal units) distinct shares refl refl) where
  by : (o : Option ℕ) → place_of things.names (Literal units) ≡ o → Shares s (placed_at things (Literal units) o).1 others w
      → IsThere s (machine.Literal units) (placed_at things (Literal units) o).1 others w (ref (placed_at things (Literal units) o).0)
  by None e after = record {
    named = last_name s.heads things.names (Literal units);
    within = lt-ltb (length things.names) (length (things.names ++ Literal units ∷ [])) (let more = length-push things.names (Literal units) in omega arith);
    shares = after;
  }
  by (Some place) e after = record {
    named = name_at_place s.heads things.names (Literal units) place e;
    within = lt-ltb place (length things.names) (place_of-within things.names (Literal units) place e);
    shares = after;
  }

pub longer_made : (things : Things) (maker : Maker) (c : Content) → IsLonger things (with_made things maker c).1
longer_made things maker c = (kept_name things.names maker ∷ [], refl)

pub longer_same : (things : Things) → IsLonger things things
longer_same things = ([], sym (append-nil things.names))

pub longer_constant : (things : Things) (name : Name) → IsLonger things (with_constant things name).1
longer_constant things name = by (place_of things.names name) where
  by : (o : Option ℕ) → IsLonger things (placed_at things name o).1
  by None = (name ∷ [], refl)
  by (Some place) = longer_same things
