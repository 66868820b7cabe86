-- Static fields by the references that name them.
use Rattle.std.specs.Prelude.{◌≡◌, ℕ, ◌+◌, ◌<◌, ◌++◌, IsTrue, map, Bool, true, false, if◌then◌else◌, List, [], length, slice_get, Option, Some, None, option_and_then, refl}
use Rattle.std.specs.List.{sum, AllByRecursion}
use Rattle.std.specs.Option.{option_map, unwrap_or}
use Rattle.std.specs.Str.{bytes_eq}
use Rattle.std.proofs.Common.{get_or, sym, ap, ◌∙◌, subst, arith}
use Rattle.std.proofs.lemmas.Option.{none-some, same_Some, slice_get-map, slice_get_read, slice_get_within, get_or_from_slice_get}
use Rattle.std.proofs.lemmas.Bool.{false≢true}
use Rattle.aj_names.specs.declared.ids.ClassId.{ClassId}
use Rattle.aj_names.specs.declared.ids.FieldId.{FieldId}
use Rattle.class_file.specs.declared.types.ClassFile.{ClassFile}
use Rattle.class_file.specs.Pool.{Reference, this_name}
use Rattle.class_file.specs.Sound.{is_some_that}
use Rattle.class_file.specs.Text.{is_class_name}
use Rattle.class_file.specs.WellFormed.{is_well_formed}
use Rattle.class_heads.specs.Heads.{head_of}
use Rattle.class_heads.specs.declared.types.FieldHead.{FieldHead}
use Rattle.class_heads.specs.declared.types.ClassHead.{ClassHead}
use Rattle.class_heads.specs.Hierarchy.{is_named, name_at, place_of}
use Rattle.class_heads.specs.Numbers.{number_of, field_counts, IsNumbered}
use Rattle.class_heads.specs.Searches.{MemberPlace, in_class, find_field}
use Rattle.class_world.specs.Tables.{Known}
use Rattle.class_machine.specs.Answers.{declared_name}
use Rattle.class_machine.specs.Classes.{Field, reference}
use Rattle.class_machine.specs.ClassFiles as machine
use Rattle.class_machine.specs.ClassFiles.{file_named, field_constant, class_code}
use Rattle.class_machine.specs.Declarations as run
use Rattle.class_machine.specs.Declarations.{declared_in, field_found, is_static_field, member_name}
use Rattle.class_machine.specs.Turn.{Link, Needs, static_field, missing_member}
use Rattle.machine_code.proofs.ByNames.{find_by_position}
use Rattle.machine_code.proofs.Formed.{formed_at, names_itself}
use Rattle.machine_code.specs.NumberLaws.{one_numbered}
use Rattle.machine_fields.specs.FieldLaws.{IsFound, found_is_first, first_field_numbered}
use Rattle.machine_steps.specs.Programs.{IsRunnable, field_in_class}
use Rattle.machine_invocations.specs.Methods.{classes_in, members_in}
use Rattle.machine_statics.specs.StaticFields.{IsStatic, FindsStatic}

-- ---- the file of a class

bytes_named : (name : List ℕ) (test : List ℕ → Bool) (o : Option (List ℕ)) → is_some_that test o ≡ true → machine.is_named name o ≡ bytes_eq (unwrap_or o []) name
bytes_named name test None there = absurd (false≢true there)
bytes_named name test (Some found) there = refl

file_found : (files : List ClassFile) (library : List ClassHead) (name : List ℕ) (place : ℕ) → AllByRecursion (λ c. IsTrue (is_well_formed c)) files → place_of (map head_of files ++ library) name ≡ Some place
    → file_named files name ≡ slice_get files place
file_found files library name place formed at =
    find_by_position head_of (is_named name) (λ (c : ClassFile). machine.is_named name (this_name c)) files library 0 place
    (λ i c is. bytes_named name is_class_name (this_name c) (names_itself c (formed_at files i c formed is)))
    (at ∙ ap Some (let e : place ≡ 0 + place = omega arith in e))

name_here : (heads : List ClassHead) (place : ℕ) (head : ClassHead) → slice_get heads place ≡ Some head → name_at heads place ≡ head.name
name_here heads place head at = ap (λ (o : Option ClassHead). unwrap_or (option_map (λ (c : ClassHead). c.name) o) []) at

-- ---- what a search finds

module _ (k : Known) (runnable : IsRunnable k) (r : Reference) where
  abbrev needed : Option Field → Link
  needed o = static_field (class_code k.files) (classes_in k) r o

  abbrev at_place : MemberPlace → Option Field
  at_place p = run.field_at k.heads (length k.files) (field_constant k.files) p

  abbrev search : ℕ → Option MemberPlace
  search place = find_field k.heads place (member_name r.member)

  pub nowhere : members_in k r.class ≡ None → FindsStatic k r None
  nowhere e = ap (λ (o : Option ℕ). needed (option_and_then at_place (option_and_then search o))) e

  module _ (from : ℕ) (members : members_in k r.class ≡ Some from) where
    searched : (o : Option MemberPlace) → search from ≡ o → (classes_in k).field r ≡ option_and_then at_place o
    searched o e = ap (λ (p : Option ℕ). option_and_then at_place (option_and_then search p)) members ∙ ap (option_and_then at_place) e

    pub not_found : (id : Option FieldId) → id ≡ None → option_map (λ (f : FieldId). f.0) id ≡ option_map (number_of (field_counts k.heads)) (search from) → FindsStatic k r None
    not_found id none numbers = by (search from) refl (sym (ap (option_map (λ (f : FieldId). f.0)) none) ∙ numbers) where
      by : (o : Option MemberPlace) → search from ≡ o → None ≡ option_map (number_of (field_counts k.heads)) o → FindsStatic k r None
      by None e same = ap needed (searched None e)
      by (Some p) e same = absurd (none-some (number_of (field_counts k.heads) p) same)

    module _ (id : FieldId) (class : ClassId) (position : ℕ) (head : ClassHead) (field : FieldHead)
        (numbers : Some id.0 ≡ option_map (number_of (field_counts k.heads)) (search from)) (stands : IsNumbered (field_counts k.heads) id.0 (in_class class.0 position))
        (at : slice_get k.heads class.0 ≡ Some head) (there : slice_get head.fields position ≡ Some field) where
      abbrev here : MemberPlace
      here = in_class class.0 position

      found : search from ≡ Some here
      found = by (search from) refl numbers where
        by : (o : Option MemberPlace) → search from ≡ o → Some id.0 ≡ option_map (number_of (field_counts k.heads)) o → search from ≡ Some here
        by None e same = absurd (none-some id.0 (sym same))
        by (Some p) e same =
            let is = found_is_first k.heads from (member_name r.member) p e in
            let number : id.0 ≡ number_of (field_counts k.heads) p = same_Some id.0 (number_of (field_counts k.heads) p) same in
            let place = one_numbered (field_counts k.heads) id.0 p here (subst (λ n. IsNumbered (field_counts k.heads) n p) (sym number) (first_field_numbered k.heads p is.first)) stands in
            e ∙ ap (λ q. Some q) place

      is_found : IsFound k.heads (member_name r.member) here
      is_found = found_is_first k.heads from (member_name r.member) here found

      same_field : is_found.first.field ≡ field
      same_field =
          let same : is_found.first.head ≡ head = same_Some is_found.first.head head (sym is_found.first.class ∙ at) in
          same_Some is_found.first.field field (sym is_found.first.stands ∙ ap (λ (c : ClassHead). slice_get c.fields position) same ∙ there)

      seen : (classes_in k).field r ≡ Some (field_found head field)
      seen =
          searched (Some here) found
          ∙ ap (option_and_then (λ (c : ClassHead). option_map (field_found c) (slice_get c.fields position))) at ∙ ap (option_map (field_found head)) there

      named_head : name_at k.heads class.0 ≡ head.name
      named_head = name_here k.heads class.0 head at

      pub not_static : is_static_field field ≡ false → FindsStatic k r None
      not_static e = ap needed seen ∙ ap (λ (b : Bool). if b then Needs head.name else missing_member r) e

      file_there : file_named k.files head.name ≡ slice_get k.files class.0
      file_there =
          let placed : place_of k.heads head.name ≡ Some class.0 = ap (place_of k.heads) (sym named_head) ∙ runnable.program.different class.0 (slice_get_within k.heads class.0 head at) in
          file_found k.files runnable.program.library head.name class.0 runnable.program.formed (ap (λ (h : List ClassHead). place_of h head.name) (sym runnable.program.given) ∙ placed)

      pub is_static : is_static_field field ≡ true → id.0 < sum (field_counts k.heads) → IsStatic k r (record { id = id; class = class; position = position })
      is_static e numbered = record {
        needs = ap needed seen ∙ ap (λ (b : Bool). if b then Needs head.name else missing_member r) e ∙ ap Needs (sym named_head);
        within = slice_get_within k.heads class.0 head at;
        numbered = numbered;
        head = head;
        field = field;
        stands = record { class = at; stands = there; file = file_there };
        member = sym (ap (λ (f : FieldHead). f.name) same_field) ∙ is_found.named;
        declares = ap (declared_name r) seen;
        named = λ m is.
            ap m.setting.field_names (same_Some id.0 (number_of (field_counts k.heads) here) (numbers ∙ ap (option_map (number_of (field_counts k.heads))) found))
            ∙ is.fields from (member_name r.member) here found
            ∙ ap (λ (o : Option ClassHead). unwrap_or (option_and_then (field_in_class position) o) (reference [] [] [])) at
            ∙ ap (λ (o : Option FieldHead). unwrap_or (option_map (λ (f : FieldHead). declared_in head.name f.name) o) (reference [] [] [])) there;
      }

    -- what stands at a position among the fields of a class
    pub stands_at : (number place position : ℕ) (head : ClassHead) (field : FieldHead) (items : List FieldHead) → IsNumbered (field_counts k.heads) number (in_class place position) → slice_get k.heads place ≡ Some head
        → items ≡ head.fields → field ≡ get_or items position field → slice_get head.fields position ≡ Some field
    stands_at number place position head field items is at same read =
        let count : get_or (field_counts k.heads) place 0 ≡ length head.fields =
        get_or_from_slice_get (field_counts k.heads) place (length head.fields) 0 (slice_get-map (λ (c : ClassHead). length c.fields) k.heads place ∙ ap (option_map (λ (c : ClassHead). length c.fields)) at) in
        let within = is.within in
        slice_get_read head.fields (length head.fields) position field refl (omega arith) (subst (λ xs. field ≡ get_or xs position field) same read)
