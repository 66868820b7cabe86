-- The fields of new objects.
use Rattle.std.specs.Prelude.{◌≡◌, ℕ, zero, suc, ◌<◌, Bool, true, false, not, if◌then◌else◌, nat_lt, List, [], ◌∷◌, ◌++◌, map, length, slice_get, Option, Some, Result, Ok, Err, IfOk, OnOk, refl}
use Rattle.std.specs.List.{filter, flat_map}
use Rattle.std.specs.Option.{option_to_list}
use Rattle.std.proofs.Common.{sym, ◌∙◌, ap, subst, arith, inl, inr, length-append}
use Rattle.std.proofs.lemmas.Bool.{cases_lt, lt-ltb}
use Rattle.std.proofs.lemmas.List.{append_assoc, map-append, length-map}
use Rattle.aj_names.specs.declared.ids.ClassId.{ClassId}
use Rattle.aj_names.specs.declared.types.FieldType.{FieldType}
use Rattle.class_file.specs.Pool.{Reference}
use Rattle.class_heads.specs.declared.types.FieldHead.{FieldHead}
use Rattle.class_heads.specs.declared.types.ClassHead.{ClassHead}
use Rattle.class_heads.specs.Hierarchy.{name_at, superclass_at, superclasses}
use Rattle.class_world.specs.Tables.{Known}
use Rattle.class_machine.specs.declared.kinds.Element.{Element}
use Rattle.class_machine.specs.Descriptors.{element_of}
use Rattle.class_machine.specs.Classes.{Classes}
use Rattle.class_machine.specs.Declarations.{declared_in, is_static_field, own_fields, hidden_fields}
use Rattle.class_machine.specs.ClassFiles.{field_constant}
use Rattle.class_machine.specs.World.{is_text_class}
use Rattle.machine_values.specs.declared.values.Ref.{Ref}
use Rattle.machine_values.specs.declared.names.Maker.TheVariants.{Class}
use Rattle.machine_values.specs.declared.names.Name.{Name}
use Rattle.machine_values.specs.declared.content.Content.{Content}
use Rattle.machine_values.specs.declared.content.Content.TheVariants.{Values}
use Rattle.machine_values.specs.First.{first_value}
use Rattle.machine_values.specs.Standing.{name_in}
use Rattle.machine_values.specs.Things.{Things, next_name, with_thing, with_made}
use Rattle.class_machine.specs.Values.{class_of}
use Rattle.machine_requests.specs.Arrays.{type_element}
use Rattle.machine_requests.specs.Objects.{IsNew, Makes, AreFilled, fields_in, fields_at, new_content}
use Rattle.machine_requests.specs.Shares.{Others}
use Rattle.machine_requests.specs.Telling.{AreDistinct}
use Rattle.machine_fields.specs.Positions.{in_head, in_place}
use Rattle.machine_fields.specs.NewObjects.{held_by, asked_by, own_elements, MakesOf, KeepsFilled}
use Rattle.machine_fields.proofs.Walks.{rest_of, stands, fields_upward}

pub own_asked : (class : List ℕ) (fields : List FieldHead) → own_elements fields ≡ asked_by (map (λ (field : FieldHead). declared_in class field.name) (filter (λ field. not (is_static_field field)) fields))
own_asked class [] = refl
own_asked class (field ∷ fields) = by (is_static_field field) (own_asked class fields) where
  by : (b : Bool) → own_elements fields ≡ asked_by (map (λ (f : FieldHead). declared_in class f.name) (filter (λ f. not (is_static_field f)) fields))
      → (if b then own_elements fields else element_of field.name.descriptor ∷ own_elements fields)
      ≡ asked_by (map (λ (f : FieldHead). declared_in class f.name) (if not b then field ∷ filter (λ f. not (is_static_field f)) fields else filter (λ f. not (is_static_field f)) fields))
  by true rest = rest
  by false rest = ap (λ l. element_of field.name.descriptor ∷ l) rest

pub asked_append : (xs ys : List Reference) → asked_by (xs ++ ys) ≡ asked_by xs ++ asked_by ys
asked_append xs ys = map-append (λ (r : Reference). element_of r.member.descriptor) xs ys

-- what a class adds
pub head_asked : (old mid new : List Element) (head : ClassHead) (fields : List FieldHead) (name : List ℕ) → fields ≡ head.fields → name ≡ head.name → mid ≡ old ++ own_elements fields → new ≡ mid ++ asked_by (hidden_fields name)
    → new ≡ old ++ asked_by (in_head head)
head_asked old mid new head fields name same named own hidden =
    hidden ∙ ap (λ l. l ++ asked_by (hidden_fields name)) own ∙ append_assoc old (own_elements fields) (asked_by (hidden_fields name))
    ∙ ap (λ fs. old ++ (own_elements fs ++ asked_by (hidden_fields name))) same
    ∙ ap (λ n. old ++ (own_elements head.fields ++ asked_by (hidden_fields n))) named
    ∙ ap (λ l. old ++ (l ++ asked_by (hidden_fields head.name))) (own_asked head.name head.fields)
    ∙ ap (λ l. old ++ l) (sym (asked_append (own_fields head) (hidden_fields head.name)))

-- one class further up
pub further_up : (heads : List ClassHead) (held more all : List Element) (place left : ℕ) (head : ClassHead) (next : Option ℕ) → slice_get heads place ≡ Some head → option_to_list next ≡ superclass_at heads place
    → held ++ asked_by (rest_of heads (suc left) (Some place)) ≡ all → more ≡ held ++ asked_by (in_head head) → more ++ asked_by (rest_of heads left next) ≡ all
further_up heads held more all place left head next here up before added =
    ap (λ l. l ++ asked_by (rest_of heads left next)) added ∙ append_assoc held (asked_by (in_head head)) (asked_by (rest_of heads left next))
    ∙ ap (λ l. held ++ l) (sym (asked_append (in_head head) (rest_of heads left next)))
    ∙ ap (λ fs. held ++ asked_by fs) (sym (stands heads [] no_field 0 left place head here next up)) ∙ before where
      no_field : Reference
      no_field = record { class = []; member = record { name = []; descriptor = [] } }

-- the object is new
pub makes_of : (k : Known) (class : ℕ) (text : Bool) (types : List FieldType) (before after : Things) (at : Ref) → class < length k.heads → text ≡ is_text_class (name_at k.heads class)
    → held_by types ≡ asked_by (flat_map (in_place k.heads) (superclasses k.heads class)) → ((others : Others) → Makes class text types before others after at) → MakesOf k class before after at
makes_of k class text types before after at within of_text of_types makes s others w is shares =
    let fields : s.classes.fields (name_at k.heads class) ≡ flat_map (in_place k.heads) (superclasses k.heads class) =
    ap (λ (cs : Classes). cs.fields (name_at k.heads class)) is.classes ∙ fields_upward k.heads (length k.files) (field_constant k.files) is.distinct class within in
    let P : List ClassHead → Type 0 = λ heads. IsNew s (name_at heads class) w after others at in
    subst P is.heads (makes others s w (record {
      within = ap (λ (heads : List ClassHead). nat_lt class (length heads)) is.heads ∙ lt-ltb class (length k.heads) within;
      of_text = ap (λ (heads : List ClassHead). is_text_class (name_at heads class)) is.heads ∙ sym of_text;
      of_types = ap (λ (heads : List ClassHead). asked_by (s.classes.fields (name_at heads class))) is.heads ∙ ap asked_by fields ∙ sym of_types;
    }) (subst AreDistinct (sym is.heads) is.distinct) shares)

-- ---- the fields of all objects

get_old : {X : Type 0} (xs : List X) (x : X) (i : ℕ) → i < length xs → slice_get (xs ++ x ∷ []) i ≡ slice_get xs i
get_old [] x i h = absurd (omega arith)
get_old (y ∷ xs) x zero h = refl
get_old (y ∷ xs) x (suc i) h = get_old xs x i (omega arith)

get_new : {X : Type 0} (xs : List X) (x : X) (i : ℕ) → i ≡ length xs → slice_get (xs ++ x ∷ []) i ≡ Some x
get_new [] x i h = ap (slice_get (x ∷ [])) h
get_new (y ∷ xs) x zero h = absurd (omega arith)
get_new (y ∷ xs) x (suc i) h = get_new xs x i (omega arith)

mapped_length : {X Y Z : Type 0} (f : X → Z) (g : Y → Z) (xs : List X) (ys : List Y) → map f xs ≡ map g ys → length xs ≡ length ys
mapped_length f g xs ys e = sym (length-map xs f) ∙ ap length e ∙ length-map ys g

pub keeps_filled : (k : Known) (class : ClassId) (types : List FieldType) (text : Bool) (before after : Things) (at : ℕ) → class.0 < length k.heads → text ≡ is_text_class (name_at k.heads class.0)
    → held_by types ≡ asked_by (flat_map (in_place k.heads) (superclasses k.heads class.0)) → (at, after) ≡ with_made before (Class class) (new_content text types) → KeepsFilled k class.0 before after
keeps_filled k class types text before after at within of_text of_types added s others w is plain shares filled =
    subst (λ (things : Things). AreFilled things s) (sym (ap (λ (p : ℕ × Things). p.1) added)) (record { each = by }) where
      content : Content
      content = new_content text types

      name : Name
      name = next_name before.names (Class class)

      whole : length before.contents ≡ length before.names
      whole = shares.heap.objects.whole

      fields : length (s.classes.fields (name_at k.heads class.0)) ≡ length types
      fields =
          ap (λ (cs : Classes). length (cs.fields (name_at k.heads class.0))) is.classes
          ∙ ap length (fields_upward k.heads (length k.files) (field_constant k.files) is.distinct class.0 within)
          ∙ mapped_length (λ (r : Reference). element_of r.member.descriptor) type_element (flat_map (in_place k.heads) (superclasses k.heads class.0)) types (sym of_types)

      is_values : content ≡ Values (map first_value types)
      is_values = ap (λ (b : Bool). new_content b types) (of_text ∙ plain)

      by : (i : ℕ) → i < length (before.names ++ name ∷ [])
          → length (fields_at (with_thing before name content) i) ≡ length (s.classes.fields (class_of (name_in s.heads (slice_get (before.names ++ name ∷ []) i))))
      by i below = elim (cases_lt i (length before.names)) [
        | inl old ↦
            ap (λ o. length (fields_in o (slice_get (before.contents ++ content ∷ []) i))) (get_old before.names name i old)
            ∙ ap (λ o. length (fields_in (slice_get before.names i) o)) (get_old before.contents content i (omega arith))
            ∙ filled.each i old ∙ ap (λ o. length (s.classes.fields (class_of (name_in s.heads o)))) (sym (get_old before.names name i old))
        | inr past ↦
            let more = length-append before.names (name ∷ []) in
            let here : i ≡ length before.names = omega arith in
            ap (λ o. length (fields_in o (slice_get (before.contents ++ content ∷ []) i))) (get_new before.names name i here)
            ∙ ap (λ o. length (fields_in (Some name) o)) (get_new before.contents content i (here ∙ sym whole) ∙ ap (λ (c : Content). Some c) is_values)
            ∙ length-map types first_value ∙ sym fields
            ∙ ap (λ (heads : List ClassHead). length (s.classes.fields (name_at heads class.0))) (sym is.heads)
            ∙ ap (λ o. length (s.classes.fields (class_of (name_in s.heads o)))) (sym (get_new before.names name i here))
      ]

pub on_ok_from : {X E : Type 0} (r : Result X E) (P : X → Type 0) (Q : Type 0) → ((x : X) → P x → Q) → IfOk r P → OnOk r Q
on_ok_from (Ok x) P Q from h = from x h
on_ok_from (Err e) P Q from h = tt

pub placed_within : (before after : Things) (class : ClassId) (content : Content) (at : ℕ) → (at, after) ≡ with_made before (Class class) content → at < length after.names
placed_within before after class content at added =
    let first : at ≡ length before.names = ap (λ (p : ℕ × Things). p.0) added in
    let name = next_name before.names (Class class) in
    let all : length after.names ≡ length (before.names ++ name ∷ []) = ap (λ (p : ℕ × Things). length p.1.names) added in
    let more = length-append before.names (name ∷ []) in
    omega arith
