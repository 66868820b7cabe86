-- Texts, arrays and what stands for a class have no fields.
use Rattle.std.specs.Prelude.{◌≡◌, ℕ, suc, ◌+◌, ◌-◌, ◌<◌, ◌≤◌, ◌||◌, Bool, true, false, if◌then◌else◌, List, [], ◌∷◌, ◌++◌, map, codes, length, slice_get, Option, Some, None, refl}
use Rattle.std.proofs.Common.{sym, ap, ◌∙◌, subst, arith, length-append, lit<, lit≤}
use Rattle.std.specs.List.{flat_map, filter_map, cons_option}
use Rattle.std.specs.Option.{option_and_then, option_to_list}
use Rattle.std.specs.Str.{bytes_eq}
use Rattle.std.proofs.lemmas.Bool.{false≢true, eqb-true}
use Rattle.std.proofs.lemmas.Slice.Eq.{bytes_eq-Decides}
use Rattle.boot_library.specs.Heads.{library_heads}
use Rattle.class_file.specs.Pool.{Reference}
use Rattle.class_heads.specs.declared.types.ClassHead.{ClassHead}
use Rattle.class_heads.specs.Graph.{walk}
use Rattle.class_heads.specs.Heads.{head_of}
use Rattle.class_heads.specs.Hierarchy.{object_name, is_array, name_at, place_of, class_named, superclass_at, superclasses}
use Rattle.class_heads.specs.PlaceLaws.{class_named-place, place-named, place-within}
use Rattle.class_world.specs.Tables.{Known}
use Rattle.class_machine.specs.ClassFiles.{field_constant}
use Rattle.class_machine.specs.Classes.{Classes}
use Rattle.class_machine.specs.Declarations as run
use Rattle.class_machine.specs.Declarations.{own_fields, fields_of, hidden_fields}
use Rattle.class_machine.specs.Values.{string_class, class_class}
use Rattle.class_machine.specs.World.{is_text_class}
use Rattle.machine_requests.specs.Objects.{BareTypes}
use Rattle.machine_requests.specs.Telling.{AreDistinct}
use Rattle.machine_steps.specs.Programs.{IsRunnable, Machine, IsMachine}
use Rattle.machine_invocations.specs.Methods.{classes_in}
use Rattle.machine_invocations.proofs.Fieldless.{named, placed, classed, above, class_fields}
use Rattle.machine_invocations.proofs.Names.{plain_array}
use Rattle.machine_invocations.proofs.Upward.{walk_up, walk_top}

module _ (k : Known) (runnable : IsRunnable k) where
  abbrev given : ℕ
  given = length (map head_of k.files)

  many : given + length library_heads ≡ length k.heads
  many = sym (ap length runnable.library ∙ length-append (map head_of k.files) library_heads)

  abbrev inside : List ℕ → List Reference
  inside = run.in_superclass k.heads (length k.files) (field_constant k.files)

  -- java.lang.Object comes first
  module _ (object : ClassHead) (at : slice_get library_heads 0 ≡ Some object) (none : object.super_class ≡ None) (is_object : object.name ≡ object_name) (bare : own_fields object ≡ []) where
    object_above : [] ≡ superclass_at k.heads (given + 0)
    object_above = sym (above k runnable 0 object at (lit< tt) ∙ ap (λ (o : Option (List ℕ)). filter_map (place_of k.heads) (option_to_list o)) none)

    object_bare : inside object_name ≡ []
    object_bare =
        ap (λ (o : Option ClassHead). fields_of o ++ hidden_fields object_name) (ap (class_named k.heads) (sym is_object) ∙ classed k runnable 0 object at (lit< tt))
        ∙ ap (λ fs. fs ++ hidden_fields object_name) bare

    -- a class of the library right below it
    module _ (i : ℕ) (class : ClassHead) (there : slice_get library_heads i ≡ Some class) (below : i < length library_heads) (up : class.super_class ≡ Some object.name) where
      supers_are : superclasses k.heads (given + i) ≡ (given + i) ∷ (given + 0) ∷ []
      supers_are =
          let m = many in
          let n = length k.heads - 2 in
          let two : length k.heads ≡ suc (suc n) = let l : 2 ≤ length library_heads = lit≤ tt in omega arith in
          let next : (given + 0) ∷ [] ≡ superclass_at k.heads (given + i) =
          sym (above k runnable i class there below ∙ ap (λ (o : Option (List ℕ)). filter_map (place_of k.heads) (option_to_list o)) up ∙ ap (λ (o : Option ℕ). cons_option o []) (placed k runnable 0 object at (lit< tt))) in
          ap (λ most. walk (superclass_at k.heads) most (given + i)) two ∙ walk_up (superclass_at k.heads) (suc n) (given + i) (given + 0) next
          ∙ ap (λ rest. (given + i) ∷ rest) (walk_top (superclass_at k.heads) n (given + 0) object_above)

      pub bare_below : (name : List ℕ) → class.name ≡ name → is_array name ≡ false → own_fields class ≡ [] → hidden_fields name ≡ [] → (classes_in k).fields name ≡ []
      bare_below name is plain own hidden =
          ap (λ (b : Bool). flat_map inside (if b then name ∷ object_name ∷ [] else run.superclasses_of k.heads (length k.files) (field_constant k.files) (place_of k.heads name))) plain
          ∙ ap (λ (o : Option ℕ). flat_map inside (run.superclasses_of k.heads (length k.files) (field_constant k.files) o)) (ap (place_of k.heads) (sym is) ∙ placed k runnable i class there below)
          ∙ ap (λ places. flat_map inside (map (name_at k.heads) places)) supers_are
          ∙ ap (λ n. flat_map inside (n ∷ name_at k.heads (given + 0) ∷ [])) (named k runnable i class there below ∙ is)
          ∙ ap (λ n. flat_map inside (name ∷ n ∷ [])) (named k runnable 0 object at (lit< tt) ∙ is_object)
          ∙ ap (λ fs. (fields_of (class_named k.heads name) ++ hidden_fields name) ++ (fs ++ [])) object_bare
          ∙ ap (λ (o : Option ClassHead). (fields_of o ++ hidden_fields name) ++ []) (ap (class_named k.heads) (sym is) ∙ classed k runnable i class there below)
          ∙ ap (λ fs. (fs ++ hidden_fields name) ++ []) own
          ∙ ap (λ fs. fs ++ []) hidden

    -- no class has the name of an array type
    module _ (distinct : AreDistinct k.heads) where
      no_array : (class : List ℕ) → is_array class ≡ true → class_named k.heads class ≡ None
      no_array class array = class_named-place k.heads class ∙ by (place_of k.heads class) refl where
        by : (o : Option ℕ) → place_of k.heads class ≡ o → option_and_then (slice_get k.heads) (place_of k.heads class) ≡ None
        by None e = ap (option_and_then (slice_get k.heads)) e
        by (Some place) e =
            absurd (false≢true (sym (plain_array (name_at k.heads place) (distinct.plain place (place-within k.heads class place e))) ∙ ap is_array (place-named k.heads class place e) ∙ array))

      hidden_none : (class : List ℕ) → is_array class ≡ true → hidden_fields class ≡ []
      hidden_none [] array = absurd (false≢true array)
      hidden_none (b ∷ bytes) array = ap (λ x. hidden_fields (x ∷ bytes)) (eqb-true b 91 array)

      pub bare_array : (class : List ℕ) → is_array class ≡ true → (classes_in k).fields class ≡ []
      bare_array class array =
          ap (λ (b : Bool). flat_map inside (if b then class ∷ object_name ∷ [] else run.superclasses_of k.heads (length k.files) (field_constant k.files) (place_of k.heads class))) array
          ∙ ap (λ fs. (fields_of (class_named k.heads class) ++ hidden_fields class) ++ (fs ++ [])) object_bare
          ∙ ap (λ (o : Option ClassHead). (fields_of o ++ hidden_fields class) ++ []) (no_array class array)
          ∙ ap (λ fs. fs ++ []) (hidden_none class array)

  -- ---- the classes of texts

  one_of : (class : List ℕ) (P : List ℕ → Type 0) → P string_class → P (codes "java/lang/StringBuffer") → P (codes "java/lang/StringBuilder") → is_text_class class ≡ true → P class
  one_of class P s b c h = first (bytes_eq class string_class) refl h where
    third : (x : Bool) → bytes_eq class (codes "java/lang/StringBuilder") ≡ x → x ≡ true → P class
    third true e g = subst P (sym ((bytes_eq-Decides class (codes "java/lang/StringBuilder")).0 e)) c
    third false e g = absurd (false≢true g)

    second : (x : Bool) → bytes_eq class (codes "java/lang/StringBuffer") ≡ x → (x || bytes_eq class (codes "java/lang/StringBuilder")) ≡ true → P class
    second true e g = subst P (sym ((bytes_eq-Decides class (codes "java/lang/StringBuffer")).0 e)) b
    second false e g = third (bytes_eq class (codes "java/lang/StringBuilder")) refl g

    first : (x : Bool) → bytes_eq class string_class ≡ x → (x || (bytes_eq class (codes "java/lang/StringBuffer") || bytes_eq class (codes "java/lang/StringBuilder"))) ≡ true → P class
    first true e g = subst P (sym ((bytes_eq-Decides class string_class).0 e)) s
    first false e g = second (bytes_eq class (codes "java/lang/StringBuffer")) refl g

  pub text_fields : (class : List ℕ) → is_text_class class ≡ true → (classes_in k).fields class ≡ []
  text_fields class text =
      one_of class (λ name. (classes_in k).fields name ≡ [])
      (bare_below _ refl refl refl refl 3 _ refl (lit< tt) refl string_class refl refl refl refl)
      (bare_below _ refl refl refl refl 4 _ refl (lit< tt) refl (codes "java/lang/StringBuffer") refl refl refl refl)
      (bare_below _ refl refl refl refl 5 _ refl (lit< tt) refl (codes "java/lang/StringBuilder") refl refl refl refl) text

  pub array_fields : AreDistinct k.heads → (class : List ℕ) → is_array class ≡ true → (classes_in k).fields class ≡ []
  array_fields distinct class array = bare_array _ refl refl refl refl distinct class array

  pub bare : (m : Machine) → IsMachine k m → BareTypes m.setting
  bare m is = record {
    texts = λ class text. ap (λ (cs : Classes). cs.fields class) is.classes ∙ text_fields class text;
    arrays = λ class array. ap (λ (cs : Classes). cs.fields class) is.classes ∙ array_fields is.distinct class array;
    classes = ap (λ (cs : Classes). cs.fields class_class) is.classes ∙ class_fields k runnable;
  }
