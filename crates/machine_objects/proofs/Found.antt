-- Fields and classes that searches find.
use Rattle.std.specs.Prelude.{◌≡◌, ℕ, ◌==◌, ◌&&◌, Bool, true, false, if◌then◌else◌, List, [], ◌∷◌, length, slice_get, Option, Some, None, is_some, refl}
use Rattle.std.proofs.Common.{sym, ap, ◌∙◌, subst}
use Rattle.std.specs.Option.{option_map, option_and_then}
use Rattle.std.proofs.lemmas.Bool.{false≢true}
use Rattle.std.proofs.lemmas.Option.{none-some, same_Some}
use Rattle.class_file.specs.Pool.{Reference}
use Rattle.class_heads.specs.declared.types.FieldHead.{FieldHead}
use Rattle.class_heads.specs.declared.types.ClassHead.{ClassHead}
use Rattle.class_heads.specs.Hierarchy.{TypeName, object_name, before_semicolon, type_named, type_of_descriptor, place_of, is_known, class_of_members}
use Rattle.class_heads.specs.Numbers.{number_of, field_counts, IsNumbered}
use Rattle.class_heads.specs.Searches.{MemberPlace, in_class, find_field}
use Rattle.boot_library.specs.Heads.{library_heads}
use Rattle.class_world.specs.Tables.{Known}
use Rattle.class_machine.specs.ClassFiles.{field_constant, class_code}
use Rattle.class_machine.specs.Classes.{Field}
use Rattle.class_machine.specs.Declarations.{member_name, declared_in, is_static_field, field_found, field_at, is_type_name}
use Rattle.class_machine.specs.Turn.{instance_field, missing_member, Free}
use Rattle.machine_code.specs.NumberLaws.{one_numbered}
use Rattle.machine_fields.specs.FieldLaws.{found_is_first, first_field_numbered}
use Rattle.machine_steps.specs.Programs.{IsRunnable}
use Rattle.machine_steps.proofs.InLibrary.{library_place}
use Rattle.machine_invocations.specs.Methods.{classes_in, members_in}
use Rattle.machine_objects.specs.Fields.{IsInstanceField, LacksInstanceField}

-- ---- fields

unmapped : {X Y : Type 0} (f : X → Y) (o : Option X) → None ≡ option_map f o → o ≡ None
unmapped f None e = refl
unmapped f (Some x) e = absurd (none-some (f x) e)

module _ (k : Known) (r : Reference) where
  abbrev search : Option ℕ → Option MemberPlace
  search o = option_and_then (λ place. find_field k.heads place (member_name r.member)) o

  abbrev at_place : Option MemberPlace → Option Field
  at_place o = option_and_then (field_at k.heads (length k.files) (field_constant k.files)) o

  abbrev linked_by : Option Field → Type 0
  linked_by o = instance_field (class_code k.files) (classes_in k) r o ≡ missing_member r

  pub lacks_class : members_in k r.class ≡ None → LacksInstanceField k r
  lacks_class none = subst (λ (o : Option ℕ). linked_by (at_place (search o))) (sym none) refl

  pub lacks_field : (class : ℕ) → members_in k r.class ≡ Some class → None ≡ option_map (number_of (field_counts k.heads)) (find_field k.heads class (member_name r.member)) → LacksInstanceField k r
  lacks_field class at none =
      subst (λ (o : Option ℕ). linked_by (at_place (search o))) (sym at)
      (subst (λ (o : Option MemberPlace). linked_by (at_place o)) (sym (unmapped (number_of (field_counts k.heads)) (find_field k.heads class (member_name r.member)) none)) refl)

  -- the field that the class at the place declares at the position
  pub record StandsIn (place position : ℕ) : Type 0 where
    pub head : ClassHead
    pub field : FieldHead
    pub at : slice_get k.heads place ≡ Some head
    pub stands : slice_get head.fields position ≡ Some field
    pub searched : (classes_in k).field r ≡ Some (field_found head field)
    pub named : field.name ≡ member_name r.member

  pub stands_in : (class number place position : ℕ) → members_in k r.class ≡ Some class → Some number ≡ option_map (number_of (field_counts k.heads)) (find_field k.heads class (member_name r.member))
      → IsNumbered (field_counts k.heads) number (in_class place position) → StandsIn place position
  stands_in class number place position at found numbered = by (find_field k.heads class (member_name r.member)) refl found where
    by : (o : Option MemberPlace) → find_field k.heads class (member_name r.member) ≡ o → Some number ≡ option_map (number_of (field_counts k.heads)) o → StandsIn place position
    by None is e = absurd (none-some number (sym e))
    by (Some mp) is e =
        let first = found_is_first k.heads class (member_name r.member) mp is in
        let same : number ≡ number_of (field_counts k.heads) mp = same_Some number (number_of (field_counts k.heads) mp) e in
        let one : mp ≡ in_class place position =
        one_numbered (field_counts k.heads) number mp (in_class place position)
        (subst (λ n. IsNumbered (field_counts k.heads) n mp) (sym same) (first_field_numbered k.heads mp first.first)) numbered in
        record {
          head = first.first.head;
          field = first.first.field;
          at = subst (λ (p : MemberPlace). slice_get k.heads p.class ≡ Some first.first.head) one first.first.class;
          stands = subst (λ (p : MemberPlace). slice_get first.first.head.fields p.position ≡ Some first.first.field) one first.first.stands;
          searched = ap (λ (o : Option ℕ). at_place (search o)) at ∙ ap at_place is
              ∙ ap (option_and_then (λ (c : ClassHead). option_map (field_found c) (slice_get c.fields mp.position))) first.first.class ∙ ap (option_map (field_found first.first.head)) first.first.stands;
          named = first.named;
        }

  module _ (place position : ℕ) (in_it : StandsIn place position) where
    pub is_static : is_static_field in_it.field ≡ true → LacksInstanceField k r
    is_static e =
        subst linked_by (sym in_it.searched)
        (subst (λ (b : Bool). (if b then missing_member r else Free) ≡ missing_member r) (sym e) refl)

    pub is_instance : is_static_field in_it.field ≡ false → IsInstanceField k r place position
    is_instance e = record {
      head = in_it.head;
      field = in_it.field;
      at = in_it.at;
      stands = in_it.stands;
      is = in_it.searched ∙ ap (λ (b : Bool). Some (record { name = declared_in in_it.head.name in_it.field.name; is_static = b })) e;
      named = in_it.named;
    }

-- ---- classes

pub some_mapped : {X Y : Type 0} (f : X → Y) (o : Option X) → is_some o ≡ is_some (option_map f o)
some_mapped f None = refl
some_mapped f (Some x) = refl

both : (a : Bool) (o : Option ℕ) → is_some o ≡ true → a ≡ is_some (if a then o else None)
both true o e = sym e
both false o e = refl

module _ (k : Known) (there : is_some (place_of k.heads object_name) ≡ true) where
  by_bracket : (b : Bool) (element other : TypeName) (name : List ℕ)
      → is_known k.heads (if b then (if b then TypeName.Array element else other) else TypeName.Class name) ≡ is_some (class_of_members k.heads (if b then (if b then TypeName.Array element else other) else TypeName.Class name))
  by_bracket true element other name = both (is_known k.heads element) (place_of k.heads object_name) there
  by_bracket false element other name = refl

  known_members : (class : List ℕ) → is_known k.heads (type_named class) ≡ is_some (class_of_members k.heads (type_named class))
  known_members [] = refl
  known_members (b ∷ bytes) = by_bracket (b == 91) (type_of_descriptor bytes) (if b == 76 then TypeName.Class (before_semicolon bytes) else TypeName.Primitive (b ∷ bytes)) (b ∷ bytes)

  pub known_is : (class : List ℕ) → is_some (members_in k class) ≡ (classes_in k).knows class
  known_is class = by (is_type_name class) where
    by : (b : Bool) → is_some (if b then class_of_members k.heads (type_named class) else None) ≡ (b && is_known k.heads (type_named class))
    by true = sym (known_members class)
    by false = refl

pub object_there : (k : Known) → IsRunnable k → is_some (place_of k.heads object_name) ≡ true
object_there k runnable = by (place_of library_heads object_name) refl where
  by : (o : Option ℕ) → place_of library_heads object_name ≡ o → is_some (place_of k.heads object_name) ≡ true
  by (Some i) e = ap is_some (library_place k object_name i runnable e)
  by None e = let listed : is_some (place_of library_heads object_name) ≡ true = refl in absurd (false≢true (sym (ap is_some e) ∙ listed))
