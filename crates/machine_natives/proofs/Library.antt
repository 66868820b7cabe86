-- Classes of the library in a world: objects with texts have no fields, and what is below Throwable is there.
use Rattle.std.specs.Prelude.{◌≡◌, ℕ, suc, ◌+◌, ◌-◌, ◌<◌, ◌≤◌, ◌⊎◌, ◌||◌, ◌==◌, Bool, true, false, if◌then◌else◌, is_some, List, [], ◌∷◌, ◌++◌, map, codes, length, slice_get, Option, Some, None, refl}
use Rattle.std.specs.List.{flat_map, filter_map, cons_option}
use Rattle.std.specs.Option.{option_to_list}
use Rattle.std.specs.Str.{bytes_eq}
use Rattle.std.specs.Cmp.Lexicographic.{bytes_decides}
use Rattle.std.proofs.Common.{sym, ap, ◌∙◌, arith, inl, inr, lit<, lit≤}
use Rattle.std.proofs.lemmas.Bool.{false≢true, or_cases}
use Rattle.std.proofs.lemmas.Option.{none-some}
use Rattle.boot_library.specs.Heads.{library_heads}
use Rattle.class_heads.specs.declared.types.ClassHead.{ClassHead}
use Rattle.class_heads.specs.Graph.{walk}
use Rattle.class_heads.specs.Heads.{head_of}
use Rattle.class_heads.specs.Hierarchy.{TypeName, object_name, is_array, before_semicolon, type_of_descriptor, type_named, name_at, place_of, class_named, superclass_at, superclasses, is_among_supertypes, is_class_below, is_type_below, is_subtype}
use Rattle.class_world.specs.Tables.{Known}
use Rattle.class_machine.specs.ClassFiles.{field_constant}
use Rattle.class_machine.specs.Declarations as run
use Rattle.class_machine.specs.Declarations.{own_fields, fields_of, hidden_fields}
use Rattle.class_machine.specs.Values.{string_class, throwable_class, print_stream_class}
use Rattle.class_machine.specs.World.{is_text_class}
use Rattle.machine_steps.specs.Programs.{IsRunnable}
use Rattle.machine_steps.proofs.InLibrary.{library_place}
use Rattle.machine_invocations.specs.Methods.{classes_in}
use Rattle.machine_invocations.proofs.Fieldless.{named, placed, classed, above}
use Rattle.machine_invocations.proofs.Upward.{walk_up, walk_top}

some_of : (o : Option ℕ) → is_some o ≡ true → (i : ℕ) × (o ≡ Some i)
some_of None e = absurd cc
some_of (Some i) e = (i, refl)

-- a class that the library has, the world has
there : (k : Known) (name : List ℕ) → IsRunnable k → is_some (place_of library_heads name) ≡ true → place_of k.heads name ≡ None → ⊥
there k name runnable listed none =
    let at = some_of (place_of library_heads name) listed in
    let here = library_place k name at.0 runnable at.1 in
    none-some (length (map head_of k.files) + at.0) (sym none ∙ here)

pub strings_there : (k : Known) → IsRunnable k → place_of k.heads string_class ≡ None → ⊥
strings_there k runnable none = there k string_class runnable refl none

pub throwables_there : (k : Known) → IsRunnable k → place_of k.heads throwable_class ≡ None → ⊥
throwables_there k runnable none = there k throwable_class runnable refl none

pub streams_there : (k : Known) → IsRunnable k → place_of k.heads print_stream_class ≡ None → ⊥
streams_there k runnable none = there k print_stream_class runnable refl none

-- ---- classes below Throwable

some_type : (b : Bool) (bytes : List ℕ) (n : ℕ) → b ≡ true → (e : TypeName) × ((if b then TypeName.Array (type_of_descriptor bytes) else (if n == 76 then TypeName.Class (before_semicolon bytes) else TypeName.Primitive (n ∷ bytes))) ≡ TypeName.Array e)
some_type true bytes n e = (type_of_descriptor bytes, refl)
some_type false bytes n e = absurd (false≢true e)

array_type : (name : List ℕ) → is_array name ≡ true → (e : TypeName) × (type_of_descriptor name ≡ TypeName.Array e)
array_type [] h = absurd (false≢true h)
array_type (b ∷ bytes) h = some_type (b == 91) bytes b h

module _ (k : Known) (runnable : IsRunnable k) (name : List ℕ) (below : is_subtype k.heads name throwable_class ≡ true) where
  array_not : is_array name ≡ true → ⊥
  array_not array =
      let e = array_type name array in
      let named : type_named name ≡ TypeName.Array e.0 = ap (λ (b : Bool). if b then type_of_descriptor name else TypeName.Class name) array ∙ e.1 in
      false≢true (sym (ap (λ t. is_type_below k.heads t (TypeName.Class throwable_class)) named) ∙ below)

  in_classes : is_array name ≡ false → is_class_below k.heads name throwable_class ≡ true
  in_classes flat = sym (ap (λ (b : Bool). is_type_below k.heads (if b then type_of_descriptor name else TypeName.Class name) (TypeName.Class throwable_class)) flat) ∙ below

  first_or : (a b : Bool) → (a || b) ≡ true → b ≡ false → a ≡ true
  first_or true b h e = refl
  first_or false b h e = absurd (false≢true (sym e ∙ h))

  is_there : is_array name ≡ false → place_of k.heads name ≡ None → ⊥
  is_there flat none =
      let apart : is_among_supertypes k.heads (place_of k.heads name) (place_of k.heads throwable_class) ≡ false = ap (λ o. is_among_supertypes k.heads o (place_of k.heads throwable_class)) none in
      let same = (bytes_decides name throwable_class).0 (first_or (bytes_eq name throwable_class) (is_among_supertypes k.heads (place_of k.heads name) (place_of k.heads throwable_class)) (in_classes flat) apart) in
      throwables_there k runnable (ap (place_of k.heads) (sym same) ∙ none)

  -- is there
  pub throwable_there : place_of k.heads name ≡ None → ⊥
  throwable_there none = by (is_array name) refl where
    by : (b : Bool) → is_array name ≡ b → ⊥
    by true e = array_not e
    by false e = is_there e none

-- ---- classes of the library without fields

module _ (k : Known) (runnable : IsRunnable k) (i : ℕ) (name : List ℕ) where
  abbrev given : ℕ
  given = length (map head_of k.files)

  -- a class directly below Object
  bare : (object class : ClassHead) → slice_get library_heads 0 ≡ Some object → slice_get library_heads i ≡ Some class → i < length library_heads → object.super_class ≡ None → class.super_class ≡ Some object.name → class.name ≡ name → object.name ≡ object_name
      → own_fields class ≡ [] → own_fields object ≡ [] → hidden_fields name ≡ [] → is_array name ≡ false → 2 ≤ length k.heads → (classes_in k).fields name ≡ []
  bare object class at here below none up named_class named_object no_fields none_there unhidden flat many =
      let inside = run.in_superclass k.heads (length k.files) (field_constant k.files) in
      let place = given + i in
      let top = given + 0 in
      let n = length k.heads - 2 in
      let two : length k.heads ≡ suc (suc n) = omega arith in
      let object_above : [] ≡ superclass_at k.heads top = sym (above k runnable 0 object at (lit< tt) ∙ ap (λ (o : Option (List ℕ)). filter_map (place_of k.heads) (option_to_list o)) none) in
      let next : top ∷ [] ≡ superclass_at k.heads place =
      sym (above k runnable i class here below ∙ ap (λ (o : Option (List ℕ)). filter_map (place_of k.heads) (option_to_list o)) up ∙ ap (λ (o : Option ℕ). cons_option o []) (placed k runnable 0 object at (lit< tt))) in
      let upward : superclasses k.heads place ≡ place ∷ top ∷ [] =
      ap (λ most. walk (superclass_at k.heads) most place) two ∙ walk_up (superclass_at k.heads) (suc n) place top next
      ∙ ap (λ rest. place ∷ rest) (walk_top (superclass_at k.heads) n top object_above) in
      let placed_class : place_of k.heads name ≡ Some place = ap (place_of k.heads) (sym named_class) ∙ placed k runnable i class here below in
      let classed_class : class_named k.heads name ≡ Some class = ap (class_named k.heads) (sym named_class) ∙ classed k runnable i class here below in
      let classed_object : class_named k.heads object_name ≡ Some object = ap (class_named k.heads) (sym named_object) ∙ classed k runnable 0 object at (lit< tt) in
      ap (λ (b : Bool). flat_map inside (if b then name ∷ object_name ∷ [] else run.superclasses_of k.heads (length k.files) (field_constant k.files) (place_of k.heads name))) flat
      ∙ ap (λ (o : Option ℕ). flat_map inside (run.superclasses_of k.heads (length k.files) (field_constant k.files) o)) placed_class
      ∙ ap (λ places. flat_map inside (map (name_at k.heads) places)) upward
      ∙ ap (λ x. flat_map inside (x ∷ name_at k.heads top ∷ [])) (named k runnable i class here below ∙ named_class)
      ∙ ap (λ x. flat_map inside (name ∷ x ∷ [])) (named k runnable 0 object at (lit< tt) ∙ named_object)
      ∙ ap (λ (o : Option ClassHead). (fields_of o ++ hidden_fields name) ++ (inside object_name ++ [])) classed_class
      ∙ ap (λ fs. (fs ++ hidden_fields name) ++ (inside object_name ++ [])) no_fields
      ∙ ap (λ fs. fs ++ (inside object_name ++ [])) unhidden
      ∙ ap (λ (o : Option ClassHead). (fields_of o ++ hidden_fields object_name) ++ []) classed_object
      ∙ ap (λ fs. (fs ++ hidden_fields object_name) ++ []) none_there

many_heads : (k : Known) → IsRunnable k → 2 ≤ length k.heads
many_heads k runnable =
    let two : 2 ≤ length library_heads = lit≤ tt in
    let all : length k.heads ≡ length (map head_of k.files ++ library_heads) = ap length runnable.library in
    omega (arith, all, length_append (map head_of k.files) library_heads) where
      length_append : (xs ys : List ClassHead) → length (xs ++ ys) ≡ length xs + length ys
      length_append [] ys = let e : length ys ≡ 0 + length ys = omega arith in e
      length_append (x ∷ xs) ys = let e = length_append xs ys in omega arith

abbrev buffer : List ℕ
buffer = codes "java/lang/StringBuffer"

abbrev builder : List ℕ
builder = codes "java/lang/StringBuilder"

-- objects with texts have no fields
pub text_fields : (k : Known) → IsRunnable k → (name : List ℕ) → is_text_class name ≡ true → (classes_in k).fields name ≡ []
text_fields k runnable name text = by (or_cases (bytes_eq name string_class) (bytes_eq name buffer || bytes_eq name builder) text) where
  -- one of the library
  at : (other : List ℕ) → bytes_eq name other ≡ true → (classes_in k).fields other ≡ [] → (classes_in k).fields name ≡ []
  at other same none = ap (classes_in k).fields ((bytes_decides name other).0 same) ∙ none

  other : (bytes_eq name buffer ≡ true) ⊎ (bytes_eq name builder ≡ true) → (classes_in k).fields name ≡ []
  other (inl same) = at buffer same (bare k runnable 4 buffer _ _ refl refl (lit< tt) refl refl refl refl refl refl refl refl (many_heads k runnable))
  other (inr same) = at builder same (bare k runnable 5 builder _ _ refl refl (lit< tt) refl refl refl refl refl refl refl refl (many_heads k runnable))

  by : (bytes_eq name string_class ≡ true) ⊎ ((bytes_eq name buffer || bytes_eq name builder) ≡ true) → (classes_in k).fields name ≡ []
  by (inl same) = at string_class same (bare k runnable 3 string_class _ _ refl refl (lit< tt) refl refl refl refl refl refl refl refl (many_heads k runnable))
  by (inr rest) = other (or_cases (bytes_eq name buffer) (bytes_eq name builder) rest)

pub stream_fields : (k : Known) → IsRunnable k → (classes_in k).fields print_stream_class ≡ []
stream_fields k runnable = bare k runnable 7 print_stream_class _ _ refl refl (lit< tt) refl refl refl refl refl refl refl refl (many_heads k runnable)
