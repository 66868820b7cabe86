-- Which lines are of the form: those that a text may have.
use Rattle.std.specs.Prelude.{ℕ, ◌+◌, ◌-◌, ◌^◌, ◌==◌, Bool, true, false, not, ◌&&◌, ◌||◌, nat_le, nat_lt, int_lt, List, [], ◌∷◌, length, codes, Option, Some, None, is_none, ℤ, pos, negsuc, ◌+ℤ◌}
use Rattle.std.specs.List.{list_all}
use Rattle.std.specs.Str.{bytes_eq}
use Rattle.opcode_table.specs.declared.form.Form.{Form}
use Rattle.opcode_table.specs.Table.{form_of}
use Rattle.class_file.specs.Text.{within, is_utf8, is_paired, dimensions}
use Rattle.class_lines.specs.declared.line.Line.{Line}
use Rattle.class_lines.specs.declared.line.MemberHead.{MemberHead}
use Rattle.class_lines.specs.declared.line.Operation.{Operation}
use Rattle.class_lines.specs.declared.line.Constant.{Constant}
use Rattle.class_lines.specs.declared.line.Case.{Case}
use Rattle.class_lines.specs.declared.words.WordKind.{WordKind}
use Rattle.class_lines.specs.Numbers.{integer}
use Rattle.class_lines.specs.Words.{Text, fits}
use Rattle.class_lines.specs.Quotes.{is_text}
use Rattle.class_lines.specs.Heads.{takes_few}
use Rattle.class_lines.specs.Operations.{float_of}
use Rattle.class_lines.specs.Reading.{is_passed_over}

-- from - (most + 1) to most
abbrev pub is_integer : ℕ → ℤ → Bool
is_integer most (pos n) = nat_le n most
is_integer most (negsuc n) = nat_le n most

-- ---- instructions

-- a class whose name is no number and no float
abbrev pub is_constant : Constant → Bool
is_constant (Constant.Int n) = is_integer (2 ^ 31 - 1) n
is_constant (Constant.Float bits) = nat_lt bits (2 ^ 32)
is_constant (Constant.Text text) = is_text text
is_constant (Constant.Class class) = fits WordKind.TypeName class && (is_none (integer (2 ^ 31 - 1) class) && is_none (float_of class))

-- the keys are ints, and each is above the one before
abbrev pub are_cases : ℤ → List Case → Bool
are_cases key [] = true
are_cases key (c ∷ cases) = int_lt key c.key && (is_integer (2 ^ 31 - 1) c.key && (fits WordKind.Label c.label && are_cases c.key cases))

abbrev pub of_form : (Form → Bool) → Option Form → Bool
of_form test None = false
of_form test (Some form) = test form

-- an opcode whose form passes the test
abbrev pub has_form : ℕ → (Form → Bool) → Bool
has_form op test = nat_lt op 202 && of_form test (form_of op)

abbrev pub is_plain_form : Form → Bool
is_plain_form Form.Plain = true
is_plain_form _ = false

abbrev pub is_local_form : Form → Bool
is_local_form Form.Local = true
is_local_form _ = false

abbrev pub is_branch_form : Form → Bool
is_branch_form Form.Branch = true
is_branch_form Form.WideBranch = true
is_branch_form _ = false

-- 178 to 181 get and put fields, 182 to 185 call methods
abbrev pub is_member_type : ℕ → Text → Bool
is_member_type op descriptor = (within 178 182 op && fits WordKind.FieldDescriptor descriptor) || (within 182 186 op && fits WordKind.MethodDescriptor descriptor)

-- 187 is new, 189 anewarray, and 192 and 193 are checkcast and instanceof
abbrev pub is_class_op : ℕ → Text → Bool
is_class_op op class = op == 187 || ((op == 189 && nat_lt (dimensions class) 255) || within 192 194 op)

abbrev pub is_operation : Operation → Bool
is_operation (Operation.Plain op) = has_form op is_plain_form
is_operation (Operation.Bipush value) = is_integer 127 value
is_operation (Operation.Sipush value) = is_integer 32767 value
is_operation (Operation.Local op index) = has_form op is_local_form && nat_le index 65535
is_operation (Operation.Iinc index by) = nat_le index 65535 && is_integer 32767 by
is_operation (Operation.Constant op constant) = (op == 18 || op == 19) && is_constant constant
is_operation (Operation.Long n) = is_integer (2 ^ 63 - 1) n
is_operation (Operation.Double bits) = nat_lt bits (2 ^ 64)
is_operation (Operation.Member op class name descriptor) = fits WordKind.TypeName class && (fits WordKind.MemberName name && is_member_type op descriptor)
is_operation (Operation.Class op class) = fits WordKind.TypeName class && is_class_op op class
is_operation (Operation.NewArray code) = within 4 12 code
is_operation (Operation.Multi class dims) = fits WordKind.TypeName class && (nat_le dims 255 && (nat_le 1 dims && nat_le dims (dimensions class)))
is_operation (Operation.Branch op to) = has_form op is_branch_form && fits WordKind.Label to
is_operation (Operation.TableSwitch low labels default) =
    is_integer (2 ^ 31 - 1) low && (list_all (fits WordKind.Label) labels && (fits WordKind.Label default
    && (nat_lt 0 (length labels) && int_lt (low +ℤ pos (length labels)) (pos (2 ^ 31 + 1)))))
is_operation (Operation.LookupSwitch cases default) = are_cases (negsuc (2 ^ 31)) cases && fits WordKind.Label default

-- ---- lines

abbrev pub is_head : WordKind → MemberHead → Bool
is_head kind head = fits WordKind.MemberName head.name && (fits kind head.descriptor && nat_le head.flags 65535)

-- a label that begins with `;` would begin a comment
abbrev pub is_label_or_none : Option Text → Bool
is_label_or_none None = true
is_label_or_none (Some label) = fits WordKind.Label label && not (is_passed_over (label ∷ []))

-- `any` names no class
abbrev pub is_caught : Option Text → Bool
is_caught None = true
is_caught (Some class) = fits WordKind.TypeName class && not (bytes_eq class (codes "any"))

-- a line that a text may have
abbrev pub is_line : Line → Bool
is_line (Line.Class name super version flags interfaces) =
    fits WordKind.ClassName name && (fits WordKind.ClassName super && (within 46 50 version && (nat_le flags 65535 && list_all (fits WordKind.ClassName) interfaces)))
is_line (Line.Field head) = is_head WordKind.FieldDescriptor head
is_line (Line.Method head stack locals) = is_head WordKind.MethodDescriptor head && (takes_few head && (nat_le stack 65535 && nat_le locals 65535))
is_line (Line.Bare head) = is_head WordKind.MethodDescriptor head && takes_few head
is_line (Line.Step label operation) = is_label_or_none label && is_operation operation
is_line (Line.Catch from to handler class) = fits WordKind.Label from && (fits WordKind.Label to && (fits WordKind.Label handler && is_caught class))
is_line Line.End = true

-- ---- labels

-- U+0000 begins with C0
abbrev pub is_free : ℕ → Bool
is_free b = not (b == 0xC0)

-- the text is of characters: no surrogate stands outside a pair, and there is no U+0000
abbrev pub are_characters : Text → Bool
are_characters text = is_utf8 text && (is_paired text && list_all is_free text)

abbrev pub has_text_targets : Operation → Bool
has_text_targets (Operation.Branch op to) = are_characters to
has_text_targets (Operation.TableSwitch low labels default) = list_all are_characters labels && are_characters default
has_text_targets (Operation.LookupSwitch cases default) = list_all (λ (c : Case). are_characters c.label) cases && are_characters default
has_text_targets _ = true

abbrev pub is_text_or_none : Option Text → Bool
is_text_or_none None = true
is_text_or_none (Some label) = are_characters label

-- each label of the line is of characters
abbrev pub has_text_labels : Line → Bool
has_text_labels (Line.Step label operation) = is_text_or_none label && has_text_targets operation
has_text_labels (Line.Catch from to handler class) = are_characters from && (are_characters to && are_characters handler)
has_text_labels _ = true
