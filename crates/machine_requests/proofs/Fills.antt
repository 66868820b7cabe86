-- Objects keep a value for each field of their class.
use Rattle.std.specs.Prelude.{◌≡◌, ℕ, zero, suc, ◌+◌, ◌<◌, ◌≤◌, true, nat_lt, List, [], ◌∷◌, ◌++◌, map, length, slice_get, slice_set, Option, Some, None, refl}
use Rattle.std.proofs.Common.{sym, ◌∙◌, ap, subst, arith, inl, inr, length-append}
use Rattle.std.proofs.lemmas.Bool.{cases_lt}
use Rattle.std.proofs.lemmas.List.{length-map}
use Rattle.aj_names.specs.declared.ids.ClassId.{ClassId}
use Rattle.aj_names.specs.declared.types.FieldType.{FieldType}
use Rattle.class_file.specs.Pool.{Reference}
use Rattle.class_heads.specs.Hierarchy.{name_at}
use Rattle.class_machine.specs.declared.kinds.Element.{Element}
use Rattle.class_machine.specs.Descriptors.{element_of}
use Rattle.std.proofs.lemmas.List.{length-set}
use Rattle.class_machine.specs.Values.{class_of, string_class}
use Rattle.machine_values.specs.declared.values.Value.{Value}
use Rattle.machine_values.specs.declared.names.Maker.TheVariants.{Class, Array}
use Rattle.machine_values.specs.declared.names.Name.{Name}
use Rattle.machine_values.specs.declared.names.Name.TheVariants.{Made, Literal, ClassObject}
use Rattle.machine_values.specs.declared.content.Content.{Content}
use Rattle.machine_values.specs.declared.content.Content.TheVariants.{Values, Text, Fixed}
use Rattle.machine_values.specs.First.{first_value}
use Rattle.machine_values.specs.Types.{type_name}
use Rattle.machine_values.specs.Things.{Things, with_thing, next_name, with_made, place_of, placed_at, with_constant, changed, values_in, values_of, values_at}
use Rattle.machine_values.specs.Standing.{machine_name, name_in}
use Rattle.machine_requests.specs.Arrays.{type_element}
use Rattle.machine_requests.specs.Growth.{get_before}
use Rattle.machine_requests.specs.TellingLaws.{array_is_array}
use Rattle.machine_requests.specs.Shares.{Setting}
use Rattle.machine_requests.specs.Objects.{IsClass, fields_in, fields_at, AreFilled, BareTypes, StaysFilled}

as_many : (o : Option Name) (vs : List Value) (k : ℕ) (v : Value) → length (fields_in o (Some (Values (slice_set vs k v)))) ≡ length (fields_in o (Some (Values vs)))
as_many (Some (Made (Class class) j)) vs k v = length-set vs k v
as_many (Some (Made (Array type) j)) vs k v = refl
as_many (Some (Literal units)) vs k v = refl
as_many (Some (ClassObject type)) vs k v = refl
as_many None vs k v = refl

-- where something stands, values do
as_many_in : (o : Option Name) (c : Content) (k : ℕ) (v : Value) → k < length (values_in c) → length (fields_in o (Some (Values (slice_set (values_in c) k v)))) ≡ length (fields_in o (Some c))
as_many_in o (Values vs) k v h = as_many o vs k v
as_many_in o (Text units) k v h = absurd (omega arith)
as_many_in o Fixed k v h = absurd (omega arith)

-- after a write at one place, what is looked at another
set_there : (ns : List Name) (cs : List Content) (at k : ℕ) (v : Value) (i : ℕ) → k < length (values_of (slice_get cs at))
    → length (fields_in (slice_get ns i) (slice_get (slice_set cs at (Values (slice_set (values_of (slice_get cs at)) k v))) i)) ≡ length (fields_in (slice_get ns i) (slice_get cs i))
set_there ns [] at k v i h = refl
set_there [] (c ∷ cs) at k v i h = nothing (slice_get (slice_set (c ∷ cs) at (Values (slice_set (values_of (slice_get (c ∷ cs) at)) k v))) i) ∙ sym (nothing (slice_get (c ∷ cs) i)) where
  nothing : (o : Option Content) → length (fields_in None o) ≡ 0
  nothing o = refl
set_there (n ∷ ns) (c ∷ cs) zero k v zero h = as_many_in (Some n) c k v h
set_there (n ∷ ns) (c ∷ cs) zero k v (suc i) h = refl
set_there (n ∷ ns) (c ∷ cs) (suc at) k v zero h = refl
set_there (n ∷ ns) (c ∷ cs) (suc at) k v (suc i) h = set_there ns cs at k v i h

pub stored_filled : (things : Things) (at k : ℕ) (v : Value) → k < length (values_at things at) → (s : Setting) → AreFilled things s → AreFilled (changed things at (Values (slice_set (values_at things at) k v))) s
stored_filled things at k v h s filled = record { each = λ i below. set_there things.names things.contents at k v i h ∙ filled.each i below }

-- ---- one more object

last_one : {X : Type 0} (xs : List X) (x : X) → slice_get (xs ++ x ∷ []) (length xs) ≡ Some x
last_one [] x = refl
last_one (y ∷ xs) x = last_one xs x

pub grown_filled : (things : Things) (x : Name) (c : Content) (s : Setting) → length things.contents ≡ length things.names → AreFilled things s
    → length (fields_in (Some x) (Some c)) ≡ length (s.classes.fields (class_of (machine_name s.heads x))) → AreFilled (with_thing things x c) s
grown_filled things x c s whole filled as_many = record {
  each = λ at below. elim (cases_lt at (length things.names)) [
    | inl old ↦
        let n = get_before things.names (x ∷ []) at old in
        let d = get_before things.contents (c ∷ []) at (omega arith) in
        ap (λ (o : Option Name). length (fields_in o (slice_get (things.contents ++ c ∷ []) at))) n ∙ ap (λ (p : Option Content). length (fields_in (slice_get things.names at) p)) d
        ∙ filled.each at old ∙ ap (λ (o : Option Name). length (s.classes.fields (class_of (name_in s.heads o)))) (sym n)
    | inr new ↦
        let more = length-append things.names (x ∷ []) in
        let last : at ≡ length things.names = omega arith in
        let last_content : at ≡ length things.contents = omega arith in
        let n : slice_get (things.names ++ x ∷ []) at ≡ Some x = ap (slice_get (things.names ++ x ∷ [])) last ∙ last_one things.names x in
        let d : slice_get (things.contents ++ c ∷ []) at ≡ Some c = ap (slice_get (things.contents ++ c ∷ [])) last_content ∙ last_one things.contents c in
        ap (λ (o : Option Name). length (fields_in o (slice_get (things.contents ++ c ∷ []) at))) n ∙ ap (λ (p : Option Content). length (fields_in (Some x) p)) d
        ∙ as_many ∙ ap (λ (o : Option Name). length (s.classes.fields (class_of (name_in s.heads o)))) (sym n)
  ];
}

none_of : (fields : List Reference) → fields ≡ [] → 0 ≡ length fields
none_of fields e = sym (ap (length {A = Reference}) e)

pub text_filled : (things : Things) (class : ClassId) (types : List FieldType) (units : List ℕ) (s : Setting) → IsClass class.0 true types s → StaysFilled things (with_made things (Class class) (Text units)).1 s
text_filled things class types units s is bare whole filled = grown_filled things (next_name things.names (Class class)) (Text units) s whole filled (none_of _ (bare.texts (name_at s.heads class.0) is.of_text))

pub fields_filled : (things : Things) (class : ClassId) (types : List FieldType) (s : Setting) → map (λ (r : Reference). element_of r.member.descriptor) (s.classes.fields (name_at s.heads class.0)) ≡ map type_element types
    → StaysFilled things (with_made things (Class class) (Values (map first_value types))).1 s
fields_filled things class types s is bare whole filled =
    grown_filled things (next_name things.names (Class class)) (Values (map first_value types)) s whole filled
    (length-map types first_value ∙ sym (length-map types type_element) ∙ sym (ap (length {A = Element}) is) ∙ length-map (s.classes.fields (name_at s.heads class.0)) (λ (r : Reference). element_of r.member.descriptor))

pub array_filled : (things : Things) (type : FieldType) (values : List Value) (s : Setting) → nat_lt 0 type.dims ≡ true → StaysFilled things (with_made things (Array type) (Values values)).1 s
array_filled things type values s array bare whole filled = grown_filled things (next_name things.names (Array type)) (Values values) s whole filled (none_of _ (bare.arrays (type_name type) (array_is_array type array)))

placed_filled : (things : Things) (x : Name) (s : Setting) (o : Option ℕ) → AreFilled (with_thing things x Fixed) s → AreFilled things s → AreFilled (placed_at things x o).1 s
placed_filled things x s None new old = new
placed_filled things x s (Some place) new old = old

pub class_filled : (things : Things) (type : FieldType) (s : Setting) → StaysFilled things (with_constant things (ClassObject type)).1 s
class_filled things type s bare whole filled =
    placed_filled things (ClassObject type) s (place_of things.names (ClassObject type)) (grown_filled things (ClassObject type) Fixed s whole filled (none_of _ bare.classes)) filled

pub literal_filled : (things : Things) (units : List ℕ) (s : Setting) → StaysFilled things (with_constant things (Literal units)).1 s
literal_filled things units s bare whole filled =
    placed_filled things (Literal units) s (place_of things.names (Literal units)) (grown_filled things (Literal units) Fixed s whole filled (none_of _ (bare.texts string_class refl))) filled
