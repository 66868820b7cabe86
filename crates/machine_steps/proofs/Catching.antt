-- What an entry of an exception table catches.
use Rattle.std.specs.Prelude.{◌≡◌, ℕ, ◌==◌, ◌<◌, ◌&&◌, Bool, true, false, not, if◌then◌else◌, List, [], ◌∷◌, length, slice_get, is_some, Option, Some, None, option_and_then}
use Rattle.std.specs.Option.{option_map, unwrap_or}
use Rattle.std.proofs.Common.{sym, ◌∙◌, ap, subst, inl, inr}
use Rattle.std.proofs.lemmas.Bool.{cases_Bool, false≢true, and_right, and_left}
use Rattle.class_file.specs.Pool.{Reference}
use Rattle.class_file.specs.Text.{is_field_descriptor}
use Rattle.class_heads.specs.declared.types.ClassHead.{ClassHead}
use Rattle.class_heads.specs.Hierarchy.{TypeName, before_semicolon, type_of_descriptor, type_named, is_array, is_interface, place_of, class_named, is_known, is_type_below, is_subtype, name_at}
use Rattle.class_heads.specs.Faults.{is_class_that}
use Rattle.class_heads.specs.PlaceLaws.{place-within, place-named, class_named-place}
use Rattle.class_world.specs.Tables.{Known}
use Rattle.class_machine.specs.Values.{Held}
use Rattle.class_machine.specs.Classes.{Classes}
use Rattle.class_machine.specs.Declarations as run
use Rattle.class_machine.specs.Declarations.{classes_of}
use Rattle.class_machine.specs.Machine.{catches}
use Rattle.class_machine.specs.ClassFiles.{class_code, field_constant}
use Rattle.machine_requests.specs.Telling.{AreDistinct}
use Rattle.machine_requests.specs.TellingLaws.{plain_no_array}
use Rattle.machine_steps.specs.Unwinding.{TellsCatch}

pub name_here : (heads : List ClassHead) (place : ℕ) (head : ClassHead) → slice_get heads place ≡ Some head → name_at heads place ≡ head.name
name_here heads place head at = ap (λ (o : Option ClassHead). unwrap_or (option_map (λ (c : ClassHead). c.name) o) []) at

-- a class's name is no array's
pub class_no_array : (heads : List ClassHead) (place : ℕ) → AreDistinct heads → place < length heads → is_array (name_at heads place) ≡ false
class_no_array heads place distinct within = plain_no_array (name_at heads place) (distinct.plain place within)

module _ (heads : List ClassHead) (given : ℕ) (constant : Reference → Option Held) where
  abbrev takes : List ℕ → List ℕ → Bool
  takes low name = run.knows heads given constant name && (not (is_class_that is_interface (class_named heads name)) && is_subtype heads low name)

  there : (name low : List ℕ) (place : ℕ) (head : ClassHead) → AreDistinct heads → place_of heads name ≡ Some place → slice_get heads place ≡ Some head
      → takes low name ≡ (not (is_interface head) && is_subtype heads low head.name)
  there name low place head distinct at stands =
      let named : name_at heads place ≡ name = place-named heads name place at in
      let plain : is_array name ≡ false = subst (λ n. is_array n ≡ false) named (class_no_array heads place distinct (place-within heads name place at)) in
      let known : run.knows heads given constant name ≡ true =
      ap (λ (b : Bool). (if b then is_field_descriptor name else true) && is_known heads (if b then type_of_descriptor name else TypeName.Class name)) plain ∙ ap is_some at in
      let found : class_named heads name ≡ Some head = class_named-place heads name ∙ ap (option_and_then (slice_get heads)) at ∙ stands in
      let same : name ≡ head.name = sym named ∙ name_here heads place head stands in
      ap (λ (b : Bool). b && (not (is_class_that is_interface (class_named heads name)) && is_subtype heads low name)) known
      ∙ ap (λ (o : Option ClassHead). not (is_class_that is_interface o) && is_subtype heads low name) found
      ∙ ap (λ (n : List ℕ). not (is_interface head) && is_subtype heads low n) same

  -- no class is an array type
  below_array : (low name : List ℕ) → is_array low ≡ false → is_array name ≡ true → is_subtype heads low name ≡ false
  below_array low [] plain array = absurd (false≢true array)
  below_array low (b ∷ bytes) plain array =
      ap (λ (x : Bool). is_type_below heads (if x then type_of_descriptor low else TypeName.Class low) (type_named (b ∷ bytes))) plain
      ∙ ap (λ (x : Bool). is_type_below heads (TypeName.Class low) (if x then (if x then TypeName.Array (type_of_descriptor bytes) else (if b == 76 then TypeName.Class (before_semicolon bytes) else TypeName.Primitive (b ∷ bytes))) else TypeName.Class (b ∷ bytes))) array

  not_there : (name low : List ℕ) → is_array low ≡ false → place_of heads name ≡ None → takes low name ≡ false
  not_there name low plain none = elim (cases_Bool (is_array name)) [
    | inl array ↦ and_right (run.knows heads given constant name) (not (is_class_that is_interface (class_named heads name)) && is_subtype heads low name)
        (and_right (not (is_class_that is_interface (class_named heads name))) (is_subtype heads low name) (below_array low name plain array))
    | inr class ↦ and_left (run.knows heads given constant name) (not (is_class_that is_interface (class_named heads name)) && is_subtype heads low name)
        (ap (λ (b : Bool). (if b then is_field_descriptor name else true) && is_known heads (if b then type_of_descriptor name else TypeName.Class name)) class ∙ ap is_some none)
  ]

-- ---- of the machine

tells : (k : Known) (class : ℕ) (name : List ℕ) (taken : Bool)
    → ((distinct : AreDistinct k.heads) → takes k.heads (length k.files) (field_constant k.files) (name_at k.heads class) name ≡ taken) → TellsCatch k class (Some name) taken
tells k class name taken same m x is of_class =
    subst (λ (cs : Classes). catches (class_code m.files) cs x (Some name) ≡ taken) (sym is.classes)
    (ap (λ (low : List ℕ). takes k.heads (length k.files) (field_constant k.files) low name) of_class ∙ same is.distinct)

pub unknown_catches : (k : Known) (class : ℕ) (name : List ℕ) → class < length k.heads → place_of k.heads name ≡ None → TellsCatch k class (Some name) false
unknown_catches k class name within none =
    tells k class name false (λ distinct. not_there k.heads (length k.files) (field_constant k.files) name (name_at k.heads class) (class_no_array k.heads class distinct within) none)

pub known_catches : (k : Known) (class : ℕ) (name : List ℕ) (place : ℕ) (high : ClassHead) (interface below : Bool) → place_of k.heads name ≡ Some place → slice_get k.heads place ≡ Some high
    → interface ≡ is_interface high → below ≡ is_subtype k.heads (name_at k.heads class) high.name → TellsCatch k class (Some name) (not interface && below)
known_catches k class name place high interface below found stands is_one is_below =
    tells k class name (not interface && below) (λ distinct.
    there k.heads (length k.files) (field_constant k.files) name (name_at k.heads class) place high distinct found stands
    ∙ ap (λ (b : Bool). not b && is_subtype k.heads (name_at k.heads class) high.name) (sym is_one)
    ∙ ap (λ (b : Bool). not interface && b) (sym is_below))
