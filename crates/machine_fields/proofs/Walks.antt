-- The fields of a class and its superclasses, upward.
use Rattle.std.specs.Prelude.{◌≡◌, ℕ, zero, suc, ◌+◌, ◌<◌, ◌≤◌, ◌^◌, Bool, true, false, ◌||◌, if◌then◌else◌, nat_eq, List, [], ◌∷◌, ◌++◌, map, length, slice_get, Option, Some, None, MatchOption, option_and_then, refl}
use Rattle.std.specs.List.{filter_map, flat_map}
use Rattle.std.specs.Option.{option_map, option_to_list, unwrap_or}
use Rattle.std.proofs.Common.{sym, ◌∙◌, ap, subst, arith, eq-eqb}
use Rattle.std.proofs.lemmas.Grind.{flat_map-append}
use Rattle.std.proofs.lemmas.List.{append-nil}
use Rattle.std.proofs.lemmas.Option.{none-some, same_Some}
use Rattle.class_file.specs.Pool.{Reference}
use Rattle.class_heads.specs.declared.types.FieldHead.{FieldHead}
use Rattle.class_heads.specs.declared.types.ClassHead.{ClassHead}
use Rattle.class_heads.specs.Graph.{walk}
use Rattle.class_heads.specs.Hierarchy.{object_name, name_at, place_of, class_named, is_array, superclass_name, superclass_at, superclasses}
use Rattle.class_heads.specs.PlaceLaws.{class_named-place, places-within}
use Rattle.class_heads.specs.OnceLaws.{is_among}
use Rattle.class_machine.specs.Values.{Held}
use Rattle.class_machine.specs.Declarations as run
use Rattle.class_machine.specs.Classes.{reference}
use Rattle.class_machine.specs.Declarations.{declared_in, own_fields, fields_of, hidden_fields}
use Rattle.machine_requests.specs.Objects.{field_place}
use Rattle.machine_requests.specs.Telling.{AreDistinct}
use Rattle.machine_requests.specs.TellingLaws.{plain_no_array}
use Rattle.machine_fields.specs.Positions.{in_head, in_some, in_place, IsPlace}
use Rattle.machine_fields.proofs.Places.{place_first, place_second}

-- the walk from a place, if there is one
abbrev pub walk_from : (ℕ → List ℕ) → ℕ → Option ℕ → List ℕ
walk_from steps most None = []
walk_from steps most (Some place) = walk steps most place

walk_step : (steps : ℕ → List ℕ) (left place : ℕ) (next : Option ℕ) → option_to_list next ≡ steps place → walk steps (suc left) place ≡ place ∷ walk_from steps left next
walk_step steps left place None e = ap (λ l. place ∷ flat_map (walk steps left) l) (sym e)
walk_step steps left place (Some up) e = ap (λ l. place ∷ flat_map (walk steps left) l) (sym e) ∙ ap (λ rest. place ∷ rest) (append-nil (walk steps left up))

-- what is still to be looked through
abbrev pub rest_of : List ClassHead → ℕ → Option ℕ → List Reference
rest_of heads left at = flat_map (in_place heads) (walk_from (superclass_at heads) left at)

-- the place in the whole, by the place in the rest
abbrev pub IsRest : List Reference → Reference → ℕ → List Reference → Type 0
IsRest all r before rest = field_place all r ≡ option_map (λ i. before + i) (field_place rest r)

none_added : (o : Option ℕ) → o ≡ option_map (λ i. 0 + i) o
none_added None = refl
none_added (Some i) = ap Some (let e : i ≡ 0 + i = omega arith in e)

pub rest_begins : (all : List Reference) (r : Reference) → IsRest all r 0 all
rest_begins all r = none_added (field_place all r)

twice_added : (m n : ℕ) (o : Option ℕ) → option_map (λ i. m + i) (option_map (λ i. n + i) o) ≡ option_map (λ i. m + n + i) o
twice_added m n None = refl
twice_added m n (Some i) = ap Some (let e : m + (n + i) ≡ m + n + i = omega arith in e)

module _ (heads : List ClassHead) (all : List Reference) (r : Reference) (before left place : ℕ) (head : ClassHead) (here : slice_get heads place ≡ Some head) where
  pub stands : (next : Option ℕ) → option_to_list next ≡ superclass_at heads place → rest_of heads (suc left) (Some place) ≡ in_head head ++ rest_of heads left next
  stands next e =
      ap (flat_map (in_place heads)) (walk_step (superclass_at heads) left place next e)
      ∙ ap (λ (o : Option ClassHead). in_some o ++ flat_map (in_place heads) (walk_from (superclass_at heads) left next)) here

  unfolds : IsRest all r before (rest_of heads (suc left) (Some place)) → field_place all r ≡ option_map (λ i. before + i) (field_place (in_head head ++ flat_map (in_place heads) (flat_map (walk (superclass_at heads) left) (superclass_at heads place))) r)
  unfolds h = h ∙ ap (λ (o : Option ClassHead). option_map (λ i. before + i) (field_place (in_some o ++ flat_map (in_place heads) (flat_map (walk (superclass_at heads) left) (superclass_at heads place))) r)) here

  -- it is here
  pub rest_found : (p : ℕ) → IsRest all r before (rest_of heads (suc left) (Some place)) → field_place (in_head head) r ≡ Some p → field_place all r ≡ Some (before + p)
  rest_found p h found = unfolds h ∙ ap (option_map (λ i. before + i)) (place_first (in_head head) _ r p found)

  -- it is further up, if anywhere
  pub rest_next : (next : Option ℕ) → option_to_list next ≡ superclass_at heads place → IsRest all r before (rest_of heads (suc left) (Some place)) → field_place (in_head head) r ≡ None
      → IsRest all r (before + length (in_head head)) (rest_of heads left next)
  rest_next next e h none =
      h ∙ ap (λ l. option_map (λ i. before + i) (field_place l r)) (stands next e)
      ∙ ap (option_map (λ i. before + i)) (place_second (in_head head) (rest_of heads left next) r none)
      ∙ twice_added before (length (in_head head)) (field_place (rest_of heads left next) r)

  -- further up it is too far, if anywhere
  pub rest_far_next : IsRest all r before (rest_of heads (suc left) (Some place)) → field_place (in_head head) r ≡ None → 2 ^ 32 ≤ before + length (in_head head) → IsPlace all r None
  rest_far_next h none far p there = by (field_place (flat_map (in_place heads) (flat_map (walk (superclass_at heads) left) (superclass_at heads place))) r)
      (sym (unfolds h ∙ ap (option_map (λ i. before + i)) (place_second (in_head head) (flat_map (in_place heads) (flat_map (walk (superclass_at heads) left) (superclass_at heads place))) r none)
      ∙ twice_added before (length (in_head head)) _) ∙ there) where
        by : (o : Option ℕ) → option_map (λ i. before + length (in_head head) + i) o ≡ Some p → 2 ^ 32 ≤ p
        by None e = absurd (none-some p e)
        by (Some i) e = let same = same_Some (before + length (in_head head) + i) p e in omega arith

-- the superclass of a class, by its place
pub at_head : (heads : List ClassHead) (place : ℕ) (head : ClassHead) → slice_get heads place ≡ Some head → filter_map (place_of heads) (superclass_name (Some head)) ≡ superclass_at heads place
at_head heads place head here = ap (λ (o : Option ClassHead). filter_map (place_of heads) (superclass_name o)) (sym here)

-- it is nowhere
pub rest_none : (heads : List ClassHead) (all : List Reference) (r : Reference) (before left : ℕ) (at : Option ℕ) → IsRest all r before (rest_of heads left at) → at ≡ None → IsPlace all r None
rest_none heads all r before left at h none p there =
    absurd (none-some p (sym (h ∙ ap (λ (o : Option ℕ). option_map (λ i. before + i) (field_place (rest_of heads left o) r)) none) ∙ there))

nowhere : (heads : List ClassHead) (at : Option ℕ) → rest_of heads 0 at ≡ []
nowhere heads None = refl
nowhere heads (Some place) = refl

pub rest_ends : (heads : List ClassHead) (all : List Reference) (r : Reference) (before : ℕ) (at : Option ℕ) → IsRest all r before (rest_of heads 0 at) → IsPlace all r None
rest_ends heads all r before at h p there =
    absurd (none-some p (sym (h ∙ ap (λ l. option_map (λ i. before + i) (field_place l r)) (nowhere heads at)) ∙ there))

-- it is past 2^32
pub far_place : (all : List Reference) (r : Reference) (n : ℕ) → field_place all r ≡ Some n → 2 ^ 32 ≤ n → IsPlace all r None
far_place all r n is far p there = let same = same_Some n p (sym is ∙ there) in omega arith

pub sum_place : (all : List Reference) (r : Reference) (n : ℕ) (o : Option ℕ) → field_place all r ≡ Some n → MatchOption o (2 ^ 32 ≤ n) (λ sum. sum ≡ n) → IsPlace all r o
sum_place all r n None is h = far_place all r n is h
sum_place all r n (Some sum) is h = is ∙ ap (λ (i : ℕ). Some i) (sym h)

-- ---- as the machine has them

abbrev Alike : List ClassHead → (ℕ → List Reference) → (ℕ → List Reference) → Type 0
Alike heads f g = (p : ℕ) → p < length heads → f p ≡ g p

over_all : (heads : List ClassHead) (f g : ℕ → List Reference) (w : ℕ → List ℕ) → ((p : ℕ) → p < length heads → flat_map f (w p) ≡ flat_map g (w p))
    → (ups : List ℕ) → ((p : ℕ) → is_among ups p ≡ true → p < length heads) → flat_map f (flat_map w ups) ≡ flat_map g (flat_map w ups)
over_all heads f g w each [] within = refl
over_all heads f g w each (up ∷ ups) within =
    flat_map-append f (w up) (flat_map w ups)
    ∙ ap (λ l. l ++ flat_map f (flat_map w ups)) (each up (within up (ap (λ b. b || is_among ups up) (eq-eqb up up refl))))
    ∙ ap (λ l. flat_map g (w up) ++ l) (over_all heads f g w each ups (λ p there. within p (ap (λ b. nat_eq p up || b) there ∙ or_true (nat_eq p up))))
    ∙ sym (flat_map-append g (w up) (flat_map w ups)) where
      or_true : (b : Bool) → (b || true) ≡ true
      or_true true = refl
      or_true false = refl

walk_alike : (heads : List ClassHead) (f g : ℕ → List Reference) → Alike heads f g → (most place : ℕ) → place < length heads → flat_map f (walk (superclass_at heads) most place) ≡ flat_map g (walk (superclass_at heads) most place)
walk_alike heads f g same zero place within = refl
walk_alike heads f g same (suc most) place within =
    ap (λ l. l ++ flat_map f (flat_map (walk (superclass_at heads) most) (superclass_at heads place))) (same place within)
    ∙ ap (λ l. g place ++ l) (over_all heads f g (walk (superclass_at heads) most) (λ p below. walk_alike heads f g same most p below) (superclass_at heads place)
    (λ p there. places-within heads (superclass_name (slice_get heads place)) p there))

flat_map-map : (f : List ℕ → List Reference) (g : ℕ → List ℕ) (xs : List ℕ) → flat_map f (map g xs) ≡ flat_map (λ x. f (g x)) xs
flat_map-map f g [] = refl
flat_map-map f g (x ∷ xs) = ap (λ l. f (g x) ++ l) (flat_map-map f g xs)

head_at : (heads : List ClassHead) (place : ℕ) → place < length heads → (c : ClassHead) × (slice_get heads place ≡ Some c)
head_at [] place within = absurd (omega arith)
head_at (c ∷ heads) zero within = (c, refl)
head_at (c ∷ heads) (suc place) within = head_at heads place (omega arith)

module _ (heads : List ClassHead) (given : ℕ) (constant : Reference → Option Held) (distinct : AreDistinct heads) where
  in_class_named : (place : ℕ) → place < length heads → run.in_superclass heads given constant (name_at heads place) ≡ in_place heads place
  in_class_named place within =
      let head = head_at heads place within in
      let named : name_at heads place ≡ head.0.name = ap (λ (o : Option ClassHead). unwrap_or (option_map (λ (c : ClassHead). c.name) o) []) head.1 in
      let found : class_named heads (name_at heads place) ≡ Some head.0 = class_named-place heads (name_at heads place) ∙ ap (option_and_then (slice_get heads)) (distinct.different place within) ∙ head.1 in
      ap (λ (o : Option ClassHead). fields_of o ++ hidden_fields (name_at heads place)) found
      ∙ ap (λ (n : List ℕ). own_fields head.0 ++ hidden_fields n) named
      ∙ sym (ap in_some head.1)

  pub fields_upward : (place : ℕ) → place < length heads → (run.classes_of heads given constant).fields (name_at heads place) ≡ flat_map (in_place heads) (superclasses heads place)
  fields_upward place within =
      let flat : is_array (name_at heads place) ≡ false = plain_no_array (name_at heads place) (distinct.plain place within) in
      let named : run.superclass_names heads given constant (name_at heads place) ≡ map (name_at heads) (superclasses heads place) =
      ap (λ (b : Bool). if b then name_at heads place ∷ object_name ∷ [] else run.superclasses_of heads given constant (place_of heads (name_at heads place))) flat
      ∙ ap (run.superclasses_of heads given constant) (distinct.different place within) in
      ap (flat_map (run.in_superclass heads given constant)) named
      ∙ flat_map-map (run.in_superclass heads given constant) (name_at heads) (superclasses heads place)
      ∙ walk_alike heads (λ p. run.in_superclass heads given constant (name_at heads p)) (in_place heads) in_class_named (length heads) place within

  pub at_class : (place : ℕ) (r : Reference) (o : Option ℕ) → place < length heads → IsPlace (flat_map (in_place heads) (superclasses heads place)) r o → IsPlace ((run.classes_of heads given constant).fields (name_at heads place)) r o
  at_class place r o within h = subst (λ (l : List Reference). IsPlace l r o) (sym (fields_upward place within)) h

-- a field by the parts of its name
pub by_parts : (all : List Reference) (class name descriptor : List ℕ) (head : ClassHead) (field : FieldHead) (o : Option ℕ) → class ≡ head.name → name ≡ field.name.name → descriptor ≡ field.name.descriptor
    → IsPlace all (reference class name descriptor) o → IsPlace all (declared_in head.name field.name) o
by_parts all class name descriptor head field o e f g h =
    subst (λ (c : List ℕ). IsPlace all (reference c field.name.name field.name.descriptor) o) e
    (subst (λ (n : List ℕ). IsPlace all (reference class n field.name.descriptor) o) f
    (subst (λ (d : List ℕ). IsPlace all (reference class name d) o) g h))
