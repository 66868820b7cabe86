-- Arrays have no fields.
use Rattle.std.specs.Prelude.{◌≡◌, ℕ, suc, ◌+◌, ◌<◌, true, List, [], ◌∷◌, ◌++◌, map, length, slice_get, Option, Some, None, unwrap_or, option_and_then, if◌then◌else◌, Bool, refl}
use Rattle.std.proofs.Common.{sym, ap, ◌∙◌, subst, arith, length-append, lit<}
use Rattle.std.proofs.lemmas.Bool.{false≢true, eqb-true}
use Rattle.std.specs.List.{flat_map}
use Rattle.std.specs.Option.{option_map}
use Rattle.boot_library.specs.Heads.{library_heads}
use Rattle.class_heads.specs.declared.types.ClassHead.{ClassHead}
use Rattle.class_heads.specs.Heads.{head_of}
use Rattle.class_heads.specs.Hierarchy.{object_name, name_at, place_of, is_array, class_named}
use Rattle.class_heads.specs.PlaceLaws.{place-within, place-named, class_named-place}
use Rattle.class_file.specs.Pool.{Reference}
use Rattle.class_world.specs.Tables.{Known}
use Rattle.class_machine.specs.ClassFiles.{field_constant}
use Rattle.class_machine.specs.Classes.{Classes}
use Rattle.class_machine.specs.Declarations as run
use Rattle.class_machine.specs.Declarations.{own_fields, fields_of, hidden_fields}
use Rattle.machine_requests.specs.Telling.{AreDistinct}
use Rattle.machine_requests.specs.TellingLaws.{plain_no_array}
use Rattle.machine_steps.specs.Programs.{Machine, IsMachine, IsRunnable}
use Rattle.machine_invocations.specs.Methods.{classes_in}

get_behind : {X : Type 0} (xs ys : List X) (i : ℕ) → slice_get (xs ++ ys) (length xs + i) ≡ slice_get ys i
get_behind [] ys i = ap (slice_get ys) (let e : 0 + i ≡ i = omega arith in e)
get_behind (x ∷ xs) ys i = ap (slice_get (x ∷ xs ++ ys)) (let e : suc (length xs) + i ≡ suc (length xs + i) = omega arith in e) ∙ get_behind xs ys i

-- no class has an array type's name
not_class : (heads : List ClassHead) (class : List ℕ) → AreDistinct heads → is_array class ≡ true → class_named heads class ≡ None
not_class heads class distinct array = class_named-place heads class ∙ ap (option_and_then (slice_get heads)) (by (place_of heads class) refl) where
  by : (o : Option ℕ) → place_of heads class ≡ o → o ≡ None
  by None e = refl
  by (Some place) e =
      let plain = plain_no_array (name_at heads place) (distinct.plain place (place-within heads class place e)) in
      absurd (false≢true (sym plain ∙ ap is_array (place-named heads class place e) ∙ array))

nothing_hidden : (class : List ℕ) → is_array class ≡ true → hidden_fields class ≡ []
nothing_hidden [] array = absurd (false≢true array)
nothing_hidden (b ∷ bytes) array = subst (λ (n : ℕ). hidden_fields (n ∷ bytes) ≡ []) (sym (eqb-true b 91 array)) refl

module _ (k : Known) (runnable : IsRunnable k) where
  abbrev given : ℕ
  given = length (map head_of k.files)

  library_at : (i : ℕ) → slice_get k.heads (given + i) ≡ slice_get library_heads i
  library_at i = ap (λ hs. slice_get hs (given + i)) runnable.library ∙ get_behind (map head_of k.files) library_heads i

  many : given + length library_heads ≡ length k.heads
  many = sym (ap length runnable.library ∙ length-append (map head_of k.files) library_heads)

  -- java.lang.Object comes first in the library
  object_classed : (head : ClassHead) → slice_get library_heads 0 ≡ Some head → head.name ≡ object_name → class_named k.heads object_name ≡ Some head
  object_classed head at name =
      let there : slice_get k.heads (given + 0) ≡ Some head = library_at 0 ∙ at in
      let named : name_at k.heads (given + 0) ≡ object_name = ap (λ (o : Option ClassHead). unwrap_or (option_map (λ (c : ClassHead). c.name) o) []) there ∙ name in
      let some : 0 < length library_heads = lit< tt in
      let placed : place_of k.heads object_name ≡ Some (given + 0) = ap (place_of k.heads) (sym named) ∙ runnable.program.different (given + 0) (let m = many in omega arith) in
      class_named-place k.heads object_name ∙ ap (option_and_then (slice_get k.heads)) placed ∙ there

  object_fields : fields_of (class_named k.heads object_name) ≡ []
  object_fields = by _ refl refl refl where
    by : (head : ClassHead) → slice_get library_heads 0 ≡ Some head → head.name ≡ object_name → own_fields head ≡ [] → fields_of (class_named k.heads object_name) ≡ []
    by head at name none = ap fields_of (object_classed head at name) ∙ none

  array_fields : (class : List ℕ) → AreDistinct k.heads → is_array class ≡ true → (classes_in k).fields class ≡ []
  array_fields class distinct array =
      let inside = run.in_superclass k.heads (length k.files) (field_constant k.files) in
      ap (λ (b : Bool). flat_map inside (if b then class ∷ object_name ∷ [] else run.superclasses_of k.heads (length k.files) (field_constant k.files) (place_of k.heads class))) array
      ∙ ap (λ (o : Option ClassHead). (fields_of o ++ hidden_fields class) ++ (inside object_name ++ [])) (not_class k.heads class distinct array)
      ∙ ap (λ (fs : List Reference). fs ++ (inside object_name ++ [])) (nothing_hidden class array)
      ∙ ap (λ (fs : List Reference). (fs ++ hidden_fields object_name) ++ []) object_fields

-- of the machine of the world
pub bare_arrays : (k : Known) (m : Machine) → IsRunnable k → IsMachine k m → (class : List ℕ) → is_array class ≡ true → m.setting.classes.fields class ≡ []
bare_arrays k m runnable is class array = subst (λ (cs : Classes). cs.fields class ≡ []) (sym is.classes) (array_fields k runnable class is.distinct array)
