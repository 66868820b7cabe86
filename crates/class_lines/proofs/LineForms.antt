-- What is known of a line of the form, without its words' kinds.
use Rattle.std.proofs.Common.{◌≡◌, ◌⊎◌, ℕ, ◌+◌, ◌-◌, ◌^◌, ◌<◌, ◌≤◌, Bool, true, ◌&&◌, ◌||◌, List, [], ◌∷◌, length, Option, Some, None, inl, inr, ⊎_elim, refl, ℤ, pos, negsuc, ◌+ℤ◌}
use Rattle.std.specs.Prelude.{nat_le, nat_lt, int_lt, is_none, not, codes}
use Rattle.std.specs.List.{list_all}
use Rattle.std.specs.Str.{bytes_eq}
use Rattle.std.proofs.lemmas.Bool.{and_parts, and_from, or_cases, leb-true, ltb-true}
use Rattle.class_file.specs.Text.{within, dimensions, is_utf8, is_class_name, is_internal_name, is_member_name, is_field_descriptor, is_method_descriptor}
use Rattle.class_lines.specs.declared.words.WordKind.{WordKind}
use Rattle.class_lines.specs.Words.{Text, is_plain, is_of_kind, fits}
use Rattle.class_lines.specs.Quotes.{is_text}
use Rattle.class_lines.specs.Numbers.{integer}
use Rattle.class_lines.specs.Operations.{float_of}
use Rattle.class_lines.specs.Heads.{takes_few}
use Rattle.class_lines.specs.declared.line.Line.{Line}
use Rattle.class_lines.specs.declared.line.MemberHead.{MemberHead}
use Rattle.class_lines.specs.declared.line.Operation.{Operation}
use Rattle.class_lines.specs.declared.line.Constant.{Constant}
use Rattle.class_lines.specs.declared.line.Case.{Case}
use Rattle.class_lines.specs.Lines.{is_integer, is_constant, are_cases, is_member_type, is_class_op, is_operation, is_head, is_caught, is_line}

word_is : (k : WordKind) (word : Text) → fits k word ≡ true → is_of_kind k word ≡ true
unfolding fits
word_is k word h =
    let p = and_parts (is_plain word) (nat_le (length word) 65535 && is_of_kind k word) h in
    (and_parts (nat_le (length word) 65535) (is_of_kind k word) p.1).1

pub class_word : (word : Text) → fits WordKind.ClassName word ≡ true → is_class_name word ≡ true
unfolding is_of_kind
class_word word h = word_is WordKind.ClassName word h

pub type_word : (word : Text) → fits WordKind.TypeName word ≡ true → is_internal_name word ≡ true
unfolding is_of_kind
type_word word h = word_is WordKind.TypeName word h

pub name_word : (word : Text) → fits WordKind.MemberName word ≡ true → is_member_name word ≡ true
unfolding is_of_kind
name_word word h = word_is WordKind.MemberName word h

pub field_word : (word : Text) → fits WordKind.FieldDescriptor word ≡ true → is_field_descriptor word ≡ true
unfolding is_of_kind
field_word word h = word_is WordKind.FieldDescriptor word h

pub method_word : (word : Text) → fits WordKind.MethodDescriptor word ≡ true → is_method_descriptor word ≡ true
unfolding is_of_kind
method_word word h = word_is WordKind.MethodDescriptor word h

pub text_word : (text : Text) → is_text text ≡ true → (length text ≤ 65535) × (is_utf8 text ≡ true)
unfolding is_text
text_word text h = let p = and_parts (nat_le (length text) 65535) (is_utf8 text) h in (leb-true (length text) 65535 p.0, p.1)

-- ---- instructions

-- an instruction of a field or of a method
pub record MemberForm (op : ℕ) (class name descriptor : Text) : Type 0 where
  pub class_is : is_internal_name class ≡ true
  pub name_is : is_member_name name ≡ true
  pub type : ((178 ≤ op) × (op < 182) × (is_field_descriptor descriptor ≡ true)) ⊎ ((182 ≤ op) × (op < 186) × (is_method_descriptor descriptor ≡ true))

in_range : (low high op : ℕ) → within low high op ≡ true → (low ≤ op) × (op < high)
in_range low high op h = let p = and_parts (nat_le low op) (nat_lt op high) h in (leb-true low op p.0, ltb-true op high p.1)

member_type : (op : ℕ) (descriptor : Text) → is_member_type op descriptor ≡ true → ((178 ≤ op) × (op < 182) × (is_field_descriptor descriptor ≡ true)) ⊎ ((182 ≤ op) × (op < 186) × (is_method_descriptor descriptor ≡ true))
member_type op descriptor h =
    ⊎_elim
    (λ f. let p = and_parts (within 178 182 op) (fits WordKind.FieldDescriptor descriptor) f in let r = in_range 178 182 op p.0 in inl (r.0, r.1, field_word descriptor p.1))
    (λ f. let p = and_parts (within 182 186 op) (fits WordKind.MethodDescriptor descriptor) f in let r = in_range 182 186 op p.0 in inr (r.0, r.1, method_word descriptor p.1))
    (or_cases (within 178 182 op && fits WordKind.FieldDescriptor descriptor) (within 182 186 op && fits WordKind.MethodDescriptor descriptor) h)

pub member_form : (op : ℕ) (class name descriptor : Text) → is_operation (Operation.Member op class name descriptor) ≡ true → MemberForm op class name descriptor
member_form op class name descriptor h =
    let p = and_parts (fits WordKind.TypeName class) (fits WordKind.MemberName name && is_member_type op descriptor) h in
    let q = and_parts (fits WordKind.MemberName name) (is_member_type op descriptor) p.1 in
    record { class_is = type_word class p.0; name_is = name_word name q.0; type = member_type op descriptor q.1 }

pub class_form : (op : ℕ) (class : Text) → is_operation (Operation.Class op class) ≡ true → (is_internal_name class ≡ true) × (is_class_op op class ≡ true)
class_form op class h = let p = and_parts (fits WordKind.TypeName class) (is_class_op op class) h in (type_word class p.0, p.1)

pub multi_form : (class : Text) (dims : ℕ) → is_operation (Operation.Multi class dims) ≡ true → (is_internal_name class ≡ true) × (dims ≤ 255) × (1 ≤ dims) × (nat_le dims (dimensions class) ≡ true)
multi_form class dims h =
    let p = and_parts (fits WordKind.TypeName class) (nat_le dims 255 && (nat_le 1 dims && nat_le dims (dimensions class))) h in
    let q = and_parts (nat_le dims 255) (nat_le 1 dims && nat_le dims (dimensions class)) p.1 in
    let r = and_parts (nat_le 1 dims) (nat_le dims (dimensions class)) q.1 in
    (type_word class p.0, leb-true dims 255 q.0, leb-true 1 dims r.0, r.1)

pub class_constant_form : (class : Text) → is_constant (Constant.Class class) ≡ true → is_internal_name class ≡ true
class_constant_form class h = type_word class (and_parts (fits WordKind.TypeName class) (is_none (integer (2 ^ 31 - 1) class) && is_none (float_of class)) h).0

-- the lowest key and the number of keys
pub table_form : (low : ℤ) (labels : List Text) (default : Text) → is_operation (Operation.TableSwitch low labels default) ≡ true → (is_integer (2 ^ 31 - 1) low ≡ true) × (0 < length labels) × (int_lt (low +ℤ pos (length labels)) (pos (2 ^ 31 + 1)) ≡ true)
table_form low labels default h =
    let small : Bool = int_lt (low +ℤ pos (length labels)) (pos (2 ^ 31 + 1)) in
    let p = and_parts (is_integer (2 ^ 31 - 1) low) (list_all (fits WordKind.Label) labels && (fits WordKind.Label default && (nat_lt 0 (length labels) && small))) h in
    let q = and_parts (list_all (fits WordKind.Label) labels) (fits WordKind.Label default && (nat_lt 0 (length labels) && small)) p.1 in
    let r = and_parts (fits WordKind.Label default) (nat_lt 0 (length labels) && small) q.1 in
    let s = and_parts (nat_lt 0 (length labels)) small r.1 in
    (p.0, ltb-true 0 (length labels) s.0, s.1)

pub lookup_form : (cases : List Case) (default : Text) → is_operation (Operation.LookupSwitch cases default) ≡ true → are_cases (negsuc (2 ^ 31)) cases ≡ true
lookup_form cases default h = (and_parts (are_cases (negsuc (2 ^ 31)) cases) (fits WordKind.Label default) h).0

-- the first key and the others
pub cases_form : (key : ℤ) (c : Case) (cases : List Case) → are_cases key (c ∷ cases) ≡ true → (int_lt key c.key ≡ true) × (is_integer (2 ^ 31 - 1) c.key ≡ true) × (are_cases c.key cases ≡ true)
cases_form key c cases h =
    let p = and_parts (int_lt key c.key) (is_integer (2 ^ 31 - 1) c.key && (fits WordKind.Label c.label && are_cases c.key cases)) h in
    let q = and_parts (is_integer (2 ^ 31 - 1) c.key) (fits WordKind.Label c.label && are_cases c.key cases) p.1 in
    let r = and_parts (fits WordKind.Label c.label) (are_cases c.key cases) q.1 in
    (p.0, q.0, r.1)

-- ---- heads

pub record HeadForm (described : Text → Bool) (head : MemberHead) : Type 0 where
  pub name : is_member_name head.name ≡ true
  pub descriptor : described head.descriptor ≡ true
  pub flags : head.flags ≤ 65535

pub field_form : (head : MemberHead) → is_line (Line.Field head) ≡ true → HeadForm is_field_descriptor head
field_form head h =
    let p = and_parts (fits WordKind.MemberName head.name) (fits WordKind.FieldDescriptor head.descriptor && nat_le head.flags 65535) h in
    let q = and_parts (fits WordKind.FieldDescriptor head.descriptor) (nat_le head.flags 65535) p.1 in
    record { name = name_word head.name p.0; descriptor = field_word head.descriptor q.0; flags = leb-true head.flags 65535 q.1 }

method_head : (head : MemberHead) → is_head WordKind.MethodDescriptor head ≡ true → HeadForm is_method_descriptor head
method_head head h =
    let p = and_parts (fits WordKind.MemberName head.name) (fits WordKind.MethodDescriptor head.descriptor && nat_le head.flags 65535) h in
    let q = and_parts (fits WordKind.MethodDescriptor head.descriptor) (nat_le head.flags 65535) p.1 in
    record { name = name_word head.name p.0; descriptor = method_word head.descriptor q.0; flags = leb-true head.flags 65535 q.1 }

pub method_form : (head : MemberHead) (stack locals : ℕ) → is_line (Line.Method head stack locals) ≡ true → HeadForm is_method_descriptor head × (takes_few head ≡ true) × (stack ≤ 65535) × (locals ≤ 65535)
method_form head stack locals h =
    let p = and_parts (is_head WordKind.MethodDescriptor head) (takes_few head && (nat_le stack 65535 && nat_le locals 65535)) h in
    let q = and_parts (takes_few head) (nat_le stack 65535 && nat_le locals 65535) p.1 in
    let r = and_parts (nat_le stack 65535) (nat_le locals 65535) q.1 in
    (method_head head p.0, q.0, leb-true stack 65535 r.0, leb-true locals 65535 r.1)

pub bare_form : (head : MemberHead) → is_line (Line.Bare head) ≡ true → HeadForm is_method_descriptor head × (takes_few head ≡ true)
bare_form head h = let p = and_parts (is_head WordKind.MethodDescriptor head) (takes_few head) h in (method_head head p.0, p.1)

-- the names are names of classes
abbrev pub are_names : List Text → Bool
are_names names = list_all is_class_name names

all_names : (names : List Text) → list_all (fits WordKind.ClassName) names ≡ true → are_names names ≡ true
all_names [] h = refl
all_names (name ∷ names) h =
    let p = and_parts (fits WordKind.ClassName name) (list_all (fits WordKind.ClassName) names) h in
    and_from (is_class_name name) (are_names names) (class_word name p.0) (all_names names p.1)

pub record ClassForm (name super : Text) (version flags : ℕ) (interfaces : List Text) : Type 0 where
  pub name_is : is_class_name name ≡ true
  pub super_is : is_class_name super ≡ true
  pub version_is : within 46 50 version ≡ true
  pub flags_are : flags ≤ 65535
  pub interfaces_are : are_names interfaces ≡ true

pub class_line_form : (name super : Text) (version flags : ℕ) (interfaces : List Text) → is_line (Line.Class name super version flags interfaces) ≡ true → ClassForm name super version flags interfaces
class_line_form name super version flags interfaces h =
    let p = and_parts (fits WordKind.ClassName name) (fits WordKind.ClassName super && (within 46 50 version && (nat_le flags 65535 && list_all (fits WordKind.ClassName) interfaces))) h in
    let q = and_parts (fits WordKind.ClassName super) (within 46 50 version && (nat_le flags 65535 && list_all (fits WordKind.ClassName) interfaces)) p.1 in
    let r = and_parts (within 46 50 version) (nat_le flags 65535 && list_all (fits WordKind.ClassName) interfaces) q.1 in
    let s = and_parts (nat_le flags 65535) (list_all (fits WordKind.ClassName) interfaces) r.1 in
    record { name_is = class_word name p.0; super_is = class_word super q.0; version_is = r.0; flags_are = leb-true flags 65535 s.0; interfaces_are = all_names interfaces s.1 }

pub caught_form : (from to handler class : Text) → is_line (Line.Catch from to handler (Some class)) ≡ true → is_internal_name class ≡ true
caught_form from to handler class h =
    let p = and_parts (fits WordKind.Label from) (fits WordKind.Label to && (fits WordKind.Label handler && is_caught (Some class))) h in
    let q = and_parts (fits WordKind.Label to) (fits WordKind.Label handler && is_caught (Some class)) p.1 in
    let r = and_parts (fits WordKind.Label handler) (is_caught (Some class)) q.1 in
    type_word class (and_parts (fits WordKind.TypeName class) (not (bytes_eq class (codes "any"))) r.1).0
