-- Texts, arrays and what stands for a class have no fields.
use Rattle.std.specs.Prelude.{◌≡◌, ℕ, suc, ◌+◌, ◌-◌, ◌<◌, ◌≤◌, ◌||◌, Bool, true, false, if◌then◌else◌, List, [], ◌∷◌, ◌++◌, map, codes, length, slice_get, Option, Some, None, refl}
use Rattle.std.proofs.Common.{sym, ap, ◌∙◌, subst, arith, length-append, lit<, lit≤}
use Rattle.std.specs.List.{flat_map, filter_map, cons_option}
use Rattle.std.specs.Option.{option_and_then, option_to_list}
use Rattle.std.specs.Str.{bytes_eq}
use Rattle.std.specs.Cmp.Lexicographic.{bytes_decides}
use Rattle.std.proofs.lemmas.Bool.{false≢true, eqb-true}
use Rattle.boot_library.specs.Heads.{library_heads}
use Rattle.class_file.specs.Pool.{Reference}
use Rattle.class_heads.specs.declared.types.ClassHead.{ClassHead}
use Rattle.class_heads.specs.Graph.{walk}
use Rattle.class_heads.specs.Heads.{head_of}
use Rattle.class_heads.specs.Hierarchy.{object_name, name_at, place_of, is_array, class_named, superclass_at, superclasses}
use Rattle.class_heads.specs.PlaceLaws.{class_named-place, place-named, place-within}
use Rattle.class_world.specs.Tables.{Known}
use Rattle.class_machine.specs.Classes.{Classes}
use Rattle.class_machine.specs.ClassFiles.{field_constant}
use Rattle.class_machine.specs.Declarations as run
use Rattle.class_machine.specs.Declarations.{own_fields, fields_of, hidden_fields}
use Rattle.class_machine.specs.Values.{string_class, class_class}
use Rattle.class_machine.specs.World.{is_text_class}
use Rattle.machine_requests.specs.Objects.{BareTypes}
use Rattle.machine_requests.specs.Telling.{AreDistinct}
use Rattle.machine_requests.specs.TellingLaws.{plain_no_array}
use Rattle.machine_steps.specs.Programs.{IsRunnable, Machine, IsMachine}
use Rattle.machine_invocations.specs.Methods.{classes_in}
use Rattle.machine_invocations.proofs.Upward.{walk_up, walk_top}
use Rattle.machine_invocations.proofs.Fieldless.{named, placed, classed, above, class_fields}

-- ---- array types

no_hidden : (class : List ℕ) → is_array class ≡ true → hidden_fields class ≡ []
no_hidden [] h = absurd (false≢true h)
no_hidden (b ∷ bytes) h = subst (λ c. hidden_fields (c ∷ bytes) ≡ []) (sym (eqb-true b 91 h)) refl

unplaced : (heads : List ClassHead) → AreDistinct heads → (class : List ℕ) → is_array class ≡ true → place_of heads class ≡ None
unplaced heads distinct class array = by (place_of heads class) refl where
  by : (o : Option ℕ) → place_of heads class ≡ o → o ≡ None
  by None e = refl
  by (Some place) e =
      absurd (false≢true (sym (plain_no_array (name_at heads place) (distinct.plain place (place-within heads class place e))) ∙ ap is_array (place-named heads class place e) ∙ array))

module _ (k : Known) (runnable : IsRunnable k) where
  abbrev given : ℕ
  given = length (map head_of k.files)

  abbrev inside : List ℕ → List Reference
  inside = run.in_superclass k.heads (length k.files) (field_constant k.files)

  many : given + length library_heads ≡ length k.heads
  many = sym (ap length runnable.library ∙ length-append (map head_of k.files) library_heads)

  object_inside : inside object_name ≡ []
  object_inside = by _ refl refl refl where
    by : (object : ClassHead) → slice_get library_heads 0 ≡ Some object → object.name ≡ object_name → own_fields object ≡ [] → inside object_name ≡ []
    by object at is none =
        ap (λ (o : Option ClassHead). fields_of o ++ hidden_fields object_name) (ap (class_named k.heads) (sym is) ∙ classed k runnable 0 object at (lit< tt))
        ∙ ap (λ fs. fs ++ hidden_fields object_name) none

  array_fields : AreDistinct k.heads → (class : List ℕ) → is_array class ≡ true → (classes_in k).fields class ≡ []
  array_fields distinct class array =
      ap (λ (b : Bool). flat_map inside (if b then class ∷ object_name ∷ [] else run.superclasses_of k.heads (length k.files) (field_constant k.files) (place_of k.heads class))) array
      ∙ ap (λ (o : Option ClassHead). (fields_of o ++ hidden_fields class) ++ (inside object_name ++ [])) (class_named-place k.heads class ∙ ap (option_and_then (slice_get k.heads)) (unplaced k.heads distinct class array))
      ∙ ap (λ fs. fs ++ (inside object_name ++ [])) (no_hidden class array)
      ∙ ap (λ fs. fs ++ []) object_inside

  -- ---- classes of the library right below java.lang.Object

  superclasses_are : (i : ℕ) (object class : ClassHead) → i < length library_heads → slice_get library_heads 0 ≡ Some object → slice_get library_heads i ≡ Some class → object.super_class ≡ None → class.super_class ≡ Some object.name
      → superclasses k.heads (given + i) ≡ (given + i) ∷ (given + 0) ∷ []
  superclasses_are i object class below at there none up =
      let m = many in
      let n = length k.heads - 2 in
      let two : length k.heads ≡ suc (suc n) = let l : 2 ≤ length library_heads = lit≤ tt in omega arith in
      let next : (given + 0) ∷ [] ≡ superclass_at k.heads (given + i) =
      sym (above k runnable i class there below ∙ ap (λ (o : Option (List ℕ)). filter_map (place_of k.heads) (option_to_list o)) up ∙ ap (λ (o : Option ℕ). cons_option o []) (placed k runnable 0 object at (lit< tt))) in
      let top : [] ≡ superclass_at k.heads (given + 0) = sym (above k runnable 0 object at (lit< tt) ∙ ap (λ (o : Option (List ℕ)). filter_map (place_of k.heads) (option_to_list o)) none) in
      ap (λ most. walk (superclass_at k.heads) most (given + i)) two ∙ walk_up (superclass_at k.heads) (suc n) (given + i) (given + 0) next
      ∙ ap (λ rest. (given + i) ∷ rest) (walk_top (superclass_at k.heads) n (given + 0) top)

  below_object : (i : ℕ) (name : List ℕ) (object class : ClassHead) → i < length library_heads → slice_get library_heads 0 ≡ Some object → slice_get library_heads i ≡ Some class → object.super_class ≡ None → class.super_class ≡ Some object.name
      → class.name ≡ name → object.name ≡ object_name → own_fields class ≡ [] → hidden_fields name ≡ [] → is_array name ≡ false → (classes_in k).fields name ≡ []
  below_object i name object class below at there none up class_is object_is own hidden plain =
      let placed_class : place_of k.heads name ≡ Some (given + i) = ap (place_of k.heads) (sym class_is) ∙ placed k runnable i class there below in
      let classed_class : class_named k.heads name ≡ Some class = ap (class_named k.heads) (sym class_is) ∙ classed k runnable i class there below in
      ap (λ (b : Bool). flat_map inside (if b then name ∷ object_name ∷ [] else run.superclasses_of k.heads (length k.files) (field_constant k.files) (place_of k.heads name))) plain
      ∙ ap (λ (o : Option ℕ). flat_map inside (run.superclasses_of k.heads (length k.files) (field_constant k.files) o)) placed_class
      ∙ ap (λ places. flat_map inside (map (name_at k.heads) places)) (superclasses_are i object class below at there none up)
      ∙ ap (λ n. flat_map inside (n ∷ name_at k.heads (given + 0) ∷ [])) (named k runnable i class there below ∙ class_is)
      ∙ ap (λ n. flat_map inside (name ∷ n ∷ [])) (named k runnable 0 object at (lit< tt) ∙ object_is)
      ∙ ap (λ (o : Option ClassHead). (fields_of o ++ hidden_fields name) ++ (inside object_name ++ [])) classed_class
      ∙ ap (λ fs. (fs ++ hidden_fields name) ++ (inside object_name ++ [])) own
      ∙ ap (λ fs. fs ++ (inside object_name ++ [])) hidden
      ∙ ap (λ fs. fs ++ []) object_inside

  string_fields : (classes_in k).fields string_class ≡ []
  string_fields = below_object 3 string_class _ _ (lit< tt) refl refl refl refl refl refl refl refl refl

  buffer_fields : (classes_in k).fields (codes "java/lang/StringBuffer") ≡ []
  buffer_fields = below_object 4 (codes "java/lang/StringBuffer") _ _ (lit< tt) refl refl refl refl refl refl refl refl refl

  builder_fields : (classes_in k).fields (codes "java/lang/StringBuilder") ≡ []
  builder_fields = below_object 5 (codes "java/lang/StringBuilder") _ _ (lit< tt) refl refl refl refl refl refl refl refl refl

  text_fields : (class : List ℕ) → is_text_class class ≡ true → (classes_in k).fields class ≡ []
  text_fields class h = by (bytes_eq class string_class) (bytes_eq class (codes "java/lang/StringBuffer")) (bytes_eq class (codes "java/lang/StringBuilder")) refl refl refl h where
    by : (a b c : Bool) → bytes_eq class string_class ≡ a → bytes_eq class (codes "java/lang/StringBuffer") ≡ b → bytes_eq class (codes "java/lang/StringBuilder") ≡ c → (a || (b || c)) ≡ true → (classes_in k).fields class ≡ []
    by true b c ea eb ec e = ap (classes_in k).fields ((bytes_decides class string_class).0 ea) ∙ string_fields
    by false true c ea eb ec e = ap (classes_in k).fields ((bytes_decides class (codes "java/lang/StringBuffer")).0 eb) ∙ buffer_fields
    by false false true ea eb ec e = ap (classes_in k).fields ((bytes_decides class (codes "java/lang/StringBuilder")).0 ec) ∙ builder_fields
    by false false false ea eb ec e = absurd (false≢true e)

  pub bare_types : (m : Machine) → IsMachine k m → BareTypes m.setting
  bare_types m is = record {
    texts = λ class h. ap (λ (cs : Classes). cs.fields class) is.classes ∙ text_fields class h;
    arrays = λ class h. ap (λ (cs : Classes). cs.fields class) is.classes ∙ array_fields is.distinct class h;
    classes = ap (λ (cs : Classes). cs.fields class_class) is.classes ∙ class_fields k runnable;
  }
