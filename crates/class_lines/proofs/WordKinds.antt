-- The kinds of words, by names that other crates have too.
use Rattle.class_lines.specs.declared.words.WordKind.{WordKind}

abbrev pub Kind : Type 0
Kind = WordKind

abbrev pub class_kind : Kind
class_kind = WordKind.ClassName

abbrev pub type_kind : Kind
type_kind = WordKind.TypeName

abbrev pub member_kind : Kind
member_kind = WordKind.MemberName

abbrev pub field_kind : Kind
field_kind = WordKind.FieldDescriptor

abbrev pub method_kind : Kind
method_kind = WordKind.MethodDescriptor

abbrev pub label_kind : Kind
label_kind = WordKind.Label
