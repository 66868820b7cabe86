-- Texts, arrays and what stands for a class have no fields in a world that has the library.
use Rattle.std.specs.Prelude.{◌≡◌, ℕ, suc, ◌||◌, Bool, true, false, if◌then◌else◌, List, [], ◌∷◌, ◌++◌, length, codes, slice_get, Option, Some, None, is_some, option_and_then, refl}
use Rattle.std.specs.List.{filter_map, flat_map}
use Rattle.std.specs.Str.{bytes_eq}
use Rattle.std.specs.Cmp.Lexicographic.{bytes_decides}
use Rattle.std.proofs.Common.{sym, ◌∙◌, ap, subst}
use Rattle.std.proofs.lemmas.Bool.{false≢true, eqb-true}
use Rattle.class_file.specs.Pool.{Reference}
use Rattle.boot_library.specs.Library as library
use Rattle.boot_library.specs.Heads.{class_head, library_heads}
use Rattle.class_heads.specs.declared.types.ClassHead.{ClassHead}
use Rattle.class_heads.specs.Graph.{walk}
use Rattle.class_heads.specs.Hierarchy.{object_name, place_of, name_at, class_named, is_array, superclass_name, superclass_at}
use Rattle.class_heads.specs.PlaceLaws.{class_named-place, place-named, place-within}
use Rattle.class_world.specs.Tables.{Known}
use Rattle.class_machine.specs.Values.{class_class, string_class}
use Rattle.class_machine.specs.Classes.{Classes}
use Rattle.class_machine.specs.ClassFiles.{field_constant}
use Rattle.class_machine.specs.Declarations as run
use Rattle.class_machine.specs.Declarations.{fields_of, hidden_fields}
use Rattle.class_machine.specs.World.{is_text_class}
use Rattle.machine_requests.specs.Objects.{BareTypes}
use Rattle.machine_requests.specs.Shares.{Setting}
use Rattle.machine_requests.specs.Telling.{AreDistinct}
use Rattle.machine_requests.specs.TellingLaws.{plain_no_array}
use Rattle.machine_fields.specs.Positions.{in_head, in_some, in_place}
use Rattle.machine_fields.specs.Settings.{world_setting}
use Rattle.machine_fields.proofs.Walks.{fields_upward}
use Rattle.machine_rules.specs.Library.{HasLibrary}
use Rattle.machine_rules.specs.Works.{IsSettingOf}
use Rattle.machine_rules.proofs.Declared.{class_behind}
use Rattle.machine_rules.proofs.Library.{library_knows}
use Rattle.machine_rules.proofs.LibraryClasses.{known_place, three_more, many_heads, extends}

-- a class without fields, and above it one without fields that extends none
two_bare : (heads : List ClassHead) (most place up : ℕ) → in_place heads place ≡ [] → superclass_at heads place ≡ up ∷ [] → in_place heads up ≡ [] → superclass_at heads up ≡ []
    → flat_map (in_place heads) (walk (superclass_at heads) (suc (suc most)) place) ≡ []
two_bare heads most place up own above higher top =
    ap (λ (l : List Reference). l ++ flat_map (in_place heads) (flat_map (walk (superclass_at heads) (suc most)) (superclass_at heads place))) own
    ∙ ap (λ (ups : List ℕ). flat_map (in_place heads) (flat_map (walk (superclass_at heads) (suc most)) ups)) above
    ∙ ap (λ (l : List Reference). l ++ flat_map (in_place heads) (flat_map (walk (superclass_at heads) most) (superclass_at heads up) ++ [])) higher
    ∙ ap (λ (ups : List ℕ). flat_map (in_place heads) (flat_map (walk (superclass_at heads) most) ups ++ [])) top

-- an array type has no fields of the library's own
none_hidden : (class : List ℕ) → is_array class ≡ true → hidden_fields class ≡ []
none_hidden [] array = absurd (false≢true array)
none_hidden (b ∷ bytes) array = subst (λ (n : ℕ). hidden_fields (n ∷ bytes) ≡ []) (sym (eqb-true b 91 array)) refl

module _ (k : Known) (has : HasLibrary k) (distinct : AreDistinct k.heads) where
  object_place : (p : ℕ) × (place_of k.heads object_name ≡ Some p)
  object_place = known_place (place_of k.heads object_name) (library_knows k object_name has (λ j. refl))

  object_head : slice_get k.heads object_place.0 ≡ Some (class_head library.object)
  object_head = class_behind k object_name 0 (class_head library.object) object_place.0 has distinct refl refl object_place.1

  -- a class of the library that extends Object and has no fields
  leaf : (i : ℕ) (head : ClassHead) (name : List ℕ) → slice_get library_heads i ≡ Some head → head.name ≡ name → superclass_name (Some head) ≡ object_name ∷ [] → in_head head ≡ [] → is_some (place_of k.heads name) ≡ true
      → (world_setting k).classes.fields name ≡ []
  leaf i head name there named extended own known =
      let place = known_place (place_of k.heads name) known in
      let within = place-within k.heads name place.0 place.1 in
      let is = place-named k.heads name place.0 place.1 in
      let more = three_more (length k.heads) (many_heads k has) in
      let here = class_behind k name i head place.0 has distinct there named place.1 in
      ap (world_setting k).classes.fields (sym is)
      ∙ fields_upward k.heads (length k.files) (field_constant k.files) distinct place.0 within
      ∙ ap (λ (n : ℕ). flat_map (in_place k.heads) (walk (superclass_at k.heads) n place.0)) more.1
      ∙ two_bare k.heads (suc more.0) place.0 object_place.0 (ap in_some here ∙ own) (extends k has distinct i head name object_name place.0 object_place.0 there named extended place.1 object_place.1)
      (ap in_some object_head) (ap (λ (o : Option ClassHead). filter_map (place_of k.heads) (superclass_name o)) object_head)

  bare_string : (world_setting k).classes.fields string_class ≡ []
  bare_string = leaf 3 (class_head library.string) string_class refl refl refl refl (library_knows k string_class has (λ j. refl))

  bare_buffer : (world_setting k).classes.fields (codes "java/lang/StringBuffer") ≡ []
  bare_buffer = leaf 4 (class_head (library.buffer (codes "java/lang/StringBuffer"))) (codes "java/lang/StringBuffer") refl refl refl refl (library_knows k (codes "java/lang/StringBuffer") has (λ j. refl))

  bare_builder : (world_setting k).classes.fields (codes "java/lang/StringBuilder") ≡ []
  bare_builder = leaf 5 (class_head (library.buffer (codes "java/lang/StringBuilder"))) (codes "java/lang/StringBuilder") refl refl refl refl (library_knows k (codes "java/lang/StringBuilder") has (λ j. refl))

  bare_class : (world_setting k).classes.fields class_class ≡ []
  bare_class = leaf 1 (class_head library.class_of_classes) class_class refl refl refl refl (library_knows k class_class has (λ j. refl))

  same : (a b : List ℕ) → bytes_eq a b ≡ true → (world_setting k).classes.fields b ≡ [] → (world_setting k).classes.fields a ≡ []
  same a b e bare = ap (world_setting k).classes.fields ((bytes_decides a b).0 e) ∙ bare

  bare_texts : (class : List ℕ) → is_text_class class ≡ true → (world_setting k).classes.fields class ≡ []
  bare_texts class text = by (bytes_eq class string_class) (bytes_eq class (codes "java/lang/StringBuffer")) (bytes_eq class (codes "java/lang/StringBuilder")) refl refl refl text where
    by : (a b c : Bool) → bytes_eq class string_class ≡ a → bytes_eq class (codes "java/lang/StringBuffer") ≡ b → bytes_eq class (codes "java/lang/StringBuilder") ≡ c → (a || (b || c)) ≡ true → (world_setting k).classes.fields class ≡ []
    by true b c e f g h = same class string_class e bare_string
    by false true c e f g h = same class (codes "java/lang/StringBuffer") f bare_buffer
    by false false true e f g h = same class (codes "java/lang/StringBuilder") g bare_builder
    by false false false e f g h = absurd (false≢true h)

  -- no class has the name of an array type
  no_class : (class : List ℕ) → is_array class ≡ true → class_named k.heads class ≡ None
  no_class class array = class_named-place k.heads class ∙ by (place_of k.heads class) refl where
    by : (o : Option ℕ) → place_of k.heads class ≡ o → option_and_then (slice_get k.heads) o ≡ None
    by None there = refl
    by (Some place) there =
        let named = place-named k.heads class place there in
        absurd (false≢true (sym (plain_no_array (name_at k.heads place) (distinct.plain place (place-within k.heads class place there))) ∙ ap is_array named ∙ array))

  bare_arrays : (class : List ℕ) → is_array class ≡ true → (world_setting k).classes.fields class ≡ []
  bare_arrays class array =
      ap (λ (b : Bool). flat_map (run.in_superclass k.heads (length k.files) (field_constant k.files)) (if b then class ∷ object_name ∷ [] else run.superclasses_of k.heads (length k.files) (field_constant k.files) (place_of k.heads class))) array
      ∙ ap (λ (o : Option ClassHead). (fields_of o ++ hidden_fields class) ++ flat_map (run.in_superclass k.heads (length k.files) (field_constant k.files)) (object_name ∷ [])) (no_class class array)
      ∙ ap (λ (l : List Reference). l ++ flat_map (run.in_superclass k.heads (length k.files) (field_constant k.files)) (object_name ∷ [])) (none_hidden class array)
      ∙ ap (λ (o : Option ClassHead). (fields_of o ++ hidden_fields object_name) ++ []) (class_named-place k.heads object_name ∙ ap (option_and_then (slice_get k.heads)) object_place.1 ∙ object_head)

pub bare_types : (k : Known) (s : Setting) → HasLibrary k → IsSettingOf k s → BareTypes s
bare_types k s has is = record {
  texts = λ class text. ap (λ (cs : Classes). cs.fields class) is.classes ∙ bare_texts k has is.distinct class text;
  arrays = λ class array. ap (λ (cs : Classes). cs.fields class) is.classes ∙ bare_arrays k has is.distinct class array;
  classes = ap (λ (cs : Classes). cs.fields class_class) is.classes ∙ bare_class k has is.distinct;
}
