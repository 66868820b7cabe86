-- Objects that stand for classes have no fields.
use Rattle.std.specs.Prelude.{◌≡◌, ℕ, suc, ◌+◌, ◌-◌, ◌<◌, ◌≤◌, ◌⊎◌, List, [], ◌∷◌, ◌++◌, map, length, slice_get, Option, Some, None, unwrap_or, refl}
use Rattle.std.proofs.Common.{sym, ap, ◌∙◌, arith, length-append, inl, inr, lit<, lit≤}
use Rattle.std.specs.List.{flat_map, filter_map, cons_option}
use Rattle.std.specs.Option.{option_map, option_and_then, option_to_list}
use Rattle.std.proofs.lemmas.Bool.{cases_lt}
use Rattle.boot_library.specs.Heads.{library_heads}
use Rattle.class_heads.specs.declared.types.ClassHead.{ClassHead}
use Rattle.class_heads.specs.Graph.{walk}
use Rattle.class_heads.specs.Heads.{head_of}
use Rattle.class_heads.specs.Hierarchy.{object_name, name_at, place_of, class_named, superclass_name, superclass_at, superclasses}
use Rattle.class_heads.specs.PlaceLaws.{class_named-place}
use Rattle.class_world.specs.Tables.{Known}
use Rattle.class_machine.specs.ClassFiles.{field_constant}
use Rattle.class_machine.specs.Declarations as run
use Rattle.class_machine.specs.Declarations.{run_heads, own_fields, fields_of, hidden_fields}
use Rattle.class_machine.specs.Values.{class_class, class_of}
use Rattle.aj_names.specs.declared.types.FieldType.{FieldType}
use Rattle.machine_values.specs.declared.content.Content.TheVariants.{Fixed}
use Rattle.machine_values.specs.declared.names.Name.TheVariants.{ClassObject}
use Rattle.machine_values.specs.Standing.{name_in}
use Rattle.machine_values.specs.StandingLaws.{length-push, slice_get-push}
use Rattle.machine_values.specs.Things.{Things, with_thing, placed_at, with_constant, place_of as place_of_name}
use Rattle.machine_requests.specs.Objects.{fields_in, fields_at, AreFilled}
use Rattle.machine_requests.specs.Shares.{Setting}
use Rattle.machine_steps.specs.Programs.{IsRunnable}
use Rattle.machine_invocations.specs.Methods.{classes_in}
use Rattle.machine_invocations.proofs.Upward.{walk_up, walk_top}

get_behind : {X : Type 0} (xs ys : List X) (i : ℕ) → slice_get (xs ++ ys) (length xs + i) ≡ slice_get ys i
get_behind [] ys i = ap (slice_get ys) (let e : 0 + i ≡ i = omega arith in e)
get_behind (x ∷ xs) ys i = ap (slice_get (x ∷ xs ++ ys)) (let e : suc (length xs) + i ≡ suc (length xs + i) = omega arith in e) ∙ get_behind xs ys i

module _ (k : Known) (runnable : IsRunnable k) where
  abbrev given : ℕ
  given = length (map head_of k.files)

  library_at : (i : ℕ) → slice_get k.heads (given + i) ≡ slice_get library_heads i
  library_at i = ap (λ hs. slice_get hs (given + i)) runnable.library ∙ get_behind (map head_of k.files) library_heads i

  many : given + length library_heads ≡ length k.heads
  many = sym (ap length runnable.library ∙ length-append (map head_of k.files) library_heads)

  module _ (i : ℕ) (head : ClassHead) (at : slice_get library_heads i ≡ Some head) (below : i < length library_heads) where
    there : slice_get k.heads (given + i) ≡ Some head
    there = library_at i ∙ at

    pub named : name_at k.heads (given + i) ≡ head.name
    named = ap (λ (o : Option ClassHead). unwrap_or (option_map (λ (c : ClassHead). c.name) o) []) there

    pub placed : place_of k.heads head.name ≡ Some (given + i)
    placed = ap (place_of k.heads) (sym named) ∙ runnable.program.different (given + i) (let m = many in omega arith)

    pub classed : class_named k.heads head.name ≡ Some head
    classed = class_named-place k.heads head.name ∙ ap (option_and_then (slice_get k.heads)) placed ∙ there

    pub above : superclass_at k.heads (given + i) ≡ filter_map (place_of k.heads) (option_to_list head.super_class)
    above = ap (λ (o : Option ClassHead). filter_map (place_of k.heads) (superclass_name o)) there

  -- java.lang.Object comes first, and java.lang.Class behind it
  abbrev object_place : ℕ
  object_place = given + 0

  abbrev class_place : ℕ
  class_place = given + 1

  object_above : (head : ClassHead) → slice_get library_heads 0 ≡ Some head → head.super_class ≡ None → [] ≡ superclass_at k.heads object_place
  object_above head at none = sym (above 0 head at (lit< tt) ∙ ap (λ (o : Option (List ℕ)). filter_map (place_of k.heads) (option_to_list o)) none)

  superclasses_are : (object class : ClassHead) → slice_get library_heads 0 ≡ Some object → slice_get library_heads 1 ≡ Some class → object.super_class ≡ None → class.super_class ≡ Some object.name
      → superclasses k.heads class_place ≡ class_place ∷ object_place ∷ []
  superclasses_are object class at there none up =
      let m = many in
      let n = length k.heads - 2 in
      let two : length k.heads ≡ suc (suc n) = let l : 2 ≤ length library_heads = lit≤ tt in omega arith in
      let next : object_place ∷ [] ≡ superclass_at k.heads class_place =
      sym (above 1 class there (lit< tt) ∙ ap (λ (o : Option (List ℕ)). filter_map (place_of k.heads) (option_to_list o)) up ∙ ap (λ (o : Option ℕ). cons_option o []) (placed 0 object at (lit< tt))) in
      ap (λ most. walk (superclass_at k.heads) most class_place) two ∙ walk_up (superclass_at k.heads) (suc n) class_place object_place next
      ∙ ap (λ rest. class_place ∷ rest) (walk_top (superclass_at k.heads) n object_place (object_above object at none))

  pub class_fields : (classes_in k).fields class_class ≡ []
  class_fields = by _ _ refl refl refl refl refl refl refl refl where
    by : (object class : ClassHead) → slice_get library_heads 0 ≡ Some object → slice_get library_heads 1 ≡ Some class → object.super_class ≡ None → class.super_class ≡ Some object.name → class.name ≡ class_class → object.name ≡ object_name
        → own_fields class ≡ [] → own_fields object ≡ [] → (classes_in k).fields class_class ≡ []
    by object class at there none up named_class named_object no_fields none_there =
        let inside = run.in_superclass k.heads (length k.files) (field_constant k.files) in
        let placed_class : place_of k.heads class_class ≡ Some class_place = ap (place_of k.heads) (sym named_class) ∙ placed 1 class there (lit< tt) in
        let classed_class : class_named k.heads class_class ≡ Some class = ap (class_named k.heads) (sym named_class) ∙ classed 1 class there (lit< tt) in
        let classed_object : class_named k.heads object_name ≡ Some object = ap (class_named k.heads) (sym named_object) ∙ classed 0 object at (lit< tt) in
        ap (λ (o : Option ℕ). flat_map inside (run.superclasses_of k.heads (length k.files) (field_constant k.files) o)) placed_class
        ∙ ap (λ places. flat_map inside (map (name_at k.heads) places)) (superclasses_are object class at there none up)
        ∙ ap (λ name. flat_map inside (name ∷ name_at k.heads object_place ∷ [])) (named 1 class there (lit< tt) ∙ named_class)
        ∙ ap (λ name. flat_map inside (class_class ∷ name ∷ [])) (named 0 object at (lit< tt) ∙ named_object)
        ∙ ap (λ (o : Option ClassHead). (fields_of o ++ hidden_fields class_class) ++ (inside object_name ++ [])) classed_class
        ∙ ap (λ fs. (fs ++ hidden_fields class_class) ++ (inside object_name ++ [])) no_fields
        ∙ ap (λ (o : Option ClassHead). (fields_of o ++ hidden_fields object_name) ++ []) classed_object
        ∙ ap (λ fs. (fs ++ hidden_fields object_name) ++ []) none_there

-- ---- heaps with one more such object

module _ (s : Setting) (none : s.classes.fields class_class ≡ []) (things : Things) (whole : length things.contents ≡ length things.names) (filled : AreFilled things s) where
  with_class : (type : FieldType) → AreFilled (with_thing things (ClassObject type) Fixed) s
  with_class type = record { each = λ at below. by at (cases_lt at (length things.names)) below } where
    by : (at : ℕ) → (at < length things.names) ⊎ (length things.names ≤ at) → at < length (things.names ++ ClassObject type ∷ [])
        → length (fields_at (with_thing things (ClassObject type) Fixed) at) ≡ length (s.classes.fields (class_of (name_in s.heads (slice_get (things.names ++ ClassObject type ∷ []) at))))
    by at (inl old) below =
        ap (λ n. length (fields_in n (slice_get (things.contents ++ Fixed ∷ []) at))) (slice_get-push things.names (ClassObject type) at old)
        ∙ ap (λ c. length (fields_in (slice_get things.names at) c)) (slice_get-push things.contents Fixed at (omega arith))
        ∙ filled.each at old
        ∙ ap (λ n. length (s.classes.fields (class_of (name_in s.heads n)))) (sym (slice_get-push things.names (ClassObject type) at old))
    by at (inr new) below =
        let more = length-push things.names (ClassObject type) in
        let last : at ≡ length things.names + 0 = omega arith in
        let named = ap (slice_get (things.names ++ ClassObject type ∷ [])) last ∙ get_behind things.names (ClassObject type ∷ []) 0 in
        ap (λ n. length (fields_in n (slice_get (things.contents ++ Fixed ∷ []) at))) named
        ∙ ap length (sym none)
        ∙ ap (λ n. length (s.classes.fields (class_of (name_in s.heads n)))) (sym named)

  pub with_class_object : (type : FieldType) → AreFilled (with_constant things (ClassObject type)).1 s
  with_class_object type = by (place_of_name things.names (ClassObject type)) where
    by : (o : Option ℕ) → AreFilled (placed_at things (ClassObject type) o).1 s
    by None = with_class type
    by (Some place) = filled
