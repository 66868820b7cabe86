-- Instructions: a mnemonic and its operands, by the form of the opcode (JVMS 6.4).
use Rattle.std.specs.Prelude.{ℕ, zero, suc, ◌+◌, ◌-◌, ◌^◌, ◌==◌, Bool, not, ◌&&◌, nat_le, nat_lt, int_lt, if◌then◌else◌, List, [], ◌∷◌, length, take, drop, codes, Option, Some, None, option_map, ℤ, pos, negsuc, ◌+ℤ◌}
use Rattle.std.specs.Option.{option_or}
use Rattle.std.specs.Str.{bytes_eq}
use Rattle.opcode_table.specs.declared.form.Form.{Form}
use Rattle.opcode_table.specs.Table.{form_of, mnemonic_of}
use Rattle.class_file.specs.Text.{within, dimensions}
use Rattle.class_lines.specs.declared.line.Operation.{Operation}
use Rattle.class_lines.specs.declared.line.Constant.{Constant}
use Rattle.class_lines.specs.declared.line.Case.{Case}
use Rattle.class_lines.specs.declared.words.WordKind.{WordKind}
use Rattle.class_lines.specs.Fields.{run_of, behind_run}
use Rattle.class_lines.specs.Numbers.{integer, hexadecimal}
use Rattle.class_lines.specs.Words.{◌>>=◌, Text, fits, keyword_at, word_at, words_at, natural_at, integer_at, ended}
use Rattle.class_lines.specs.Quotes.{quoted}

-- the opcode below n that has the mnemonic
abbrev pub op_below : ℕ → Text → Option ℕ
op_below zero word = None
op_below (suc op) word = option_or (op_below op word) (if bytes_eq (mnemonic_of op) word then Some op else None)

-- the opcode that has the mnemonic
unfoldable pub op_named : Text → Option ℕ
op_named word = op_below 202 word

-- ---- operands that are numbers

unfoldable pub byte_at : List Text → Option Operation
byte_at words = integer_at 127 words >>= (λ n. ended n.1 (Operation.Bipush n.0))

unfoldable pub short_at : List Text → Option Operation
short_at words = integer_at 32767 words >>= (λ n. ended n.1 (Operation.Sipush n.0))

unfoldable pub local_at : ℕ → List Text → Option Operation
local_at op words = natural_at 65535 words >>= (λ n. ended n.1 (Operation.Local op n.0))

unfoldable pub increment_at : List Text → Option Operation
increment_at words = do
  index ← natural_at 65535 words
  by ← integer_at 32767 index.1
  ended by.1 (Operation.Iinc index.0 by.0)

-- the code of a primitive type, from 4 for boolean to 11 for long
unfoldable pub array_code_at : List Text → Option Operation
array_code_at words = natural_at 11 words >>= (λ n. if nat_le 4 n.0 then ended n.1 (Operation.NewArray n.0) else None)

-- ---- constants

abbrev pub behind : Text → Text → Option Text
behind prefix word = if nat_le (length prefix) (length word) && bytes_eq (take (length prefix) word) prefix then Some (drop (length prefix) word) else None

unfoldable pub float_of : Text → Option ℕ
float_of word = behind (codes "float:") word >>= hexadecimal 8 (2 ^ 32 - 1)

unfoldable pub double_of : Text → Option ℕ
double_of word = behind (codes "double:") word >>= hexadecimal 16 (2 ^ 64 - 1)

unfoldable pub class_constant : Text → Option Constant
class_constant word = if fits WordKind.TypeName word then Some (Constant.Class word) else None

-- a text, else an int, else a float, else a class
unfoldable pub constant_of : Text → Option Constant
constant_of word =
    option_or (option_map Constant.Text (quoted word))
    (option_or (option_or (option_map Constant.Int (integer (2 ^ 31 - 1) word)) (option_map Constant.Float (float_of word)))
    (class_constant word))

unfoldable pub constant_at : ℕ → List Text → Option Operation
constant_at op [] = None
constant_at op (w ∷ words) = constant_of w >>= (λ c. ended words (Operation.Constant op c))

-- a long, else a double
unfoldable pub wide_constant_at : List Text → Option Operation
wide_constant_at [] = None
wide_constant_at (w ∷ words) =
    option_or (option_map Operation.Long (integer (2 ^ 63 - 1) w)) (option_map Operation.Double (double_of w)) >>= ended words

-- ---- operands that are names

unfoldable pub member_at : WordKind → ℕ → List Text → Option Operation
member_at kind op words = do
  class ← word_at WordKind.TypeName words
  name ← word_at WordKind.MemberName class.1
  descriptor ← word_at kind name.1
  ended descriptor.1 (Operation.Member op class.0 name.0 descriptor.0)

-- 189 is anewarray, whose elements have at most 254 dimensions
unfoldable pub type_at : ℕ → List Text → Option Operation
type_at op words = do
  class ← word_at WordKind.TypeName words
  if op == 189 && nat_le 255 (dimensions class.0) then None else ended class.1 (Operation.Class op class.0)

-- at least one dimension is made, and at most those of the class
unfoldable pub dimensions_at : List Text → Option Operation
dimensions_at words = do
  class ← word_at WordKind.TypeName words
  dims ← natural_at 255 class.1
  if nat_le 1 dims.0 && nat_le dims.0 (dimensions class.0) then ended dims.1 (Operation.Multi class.0 dims.0) else None

-- 18 and 19 are ldc and ldc_w, 20 is ldc2_w, 178 to 181 get and put fields, 182 to 184 call methods
unfoldable pub pool_at : ℕ → List Text → Option Operation
pool_at op words =
    if op == 19 then constant_at op words else
    (if op == 20 then wide_constant_at words else
    (if within 178 182 op then member_at WordKind.FieldDescriptor op words else
    (if within 182 185 op then member_at WordKind.MethodDescriptor op words else type_at op words)))

-- ---- operands that are labels

unfoldable pub branch_at : ℕ → List Text → Option Operation
branch_at op words = word_at WordKind.Label words >>= (λ to. ended to.1 (Operation.Branch op to.0))

-- `default` and a label
unfoldable pub default_at : List Text → Option Text
default_at words = do
  rest ← keyword_at (codes "default") words
  label ← word_at WordKind.Label rest
  ended label.1 label.0

-- the label behind `default` at the end, and the words in front of that
unfoldable pub cases_at : List Text → Option (Text × List Text)
cases_at words = if nat_lt (length words) 2 then None else option_map (λ label. (label, take (length words - 2) words)) (default_at (drop (length words - 2) words))

-- a table has a label, and its highest key is an int
unfoldable pub table_at : List Text → Option Operation
table_at words = do
  low ← integer_at (2 ^ 31 - 1) words
  cases ← cases_at low.1
  labels ← words_at WordKind.Label cases.1
  if nat_lt 0 (length cases.1) && int_lt (low.0 +ℤ pos (length cases.1)) (pos (2 ^ 31 + 1)) then Some (Operation.TableSwitch low.0 labels cases.0) else None

abbrev pub is_key_byte : ℕ → Bool
is_key_byte b = not (b == 58)

-- a colon, and then a label
unfoldable pub label_behind : Text → Option Text
label_behind [] = None
label_behind (b ∷ label) = if b == 58 && fits WordKind.Label label then Some label else None

-- KEY:LABEL
unfoldable pub case_of : Text → Option Case
case_of word = do
  key ← integer (2 ^ 31 - 1) (run_of is_key_byte word)
  label ← label_behind (behind_run is_key_byte word)
  Some (record { key = key; label = label })

-- each key is above the one before
abbrev pub cases_above : ℤ → List Text → Option (List Case)
cases_above key [] = Some []
cases_above key (w ∷ words) = case_of w >>= (λ c. if int_lt key c.key then option_map (λ more. c ∷ more) (cases_above c.key words) else None)

unfoldable pub lookup_at : List Text → Option Operation
lookup_at words = do
  parts ← cases_at words
  cases ← cases_above (negsuc (2 ^ 31)) parts.1
  Some (Operation.LookupSwitch cases parts.0)

-- ---- by the form

abbrev pub by_form : ℕ → Form → List Text → Option Operation
by_form op Form.Plain words = ended words (Operation.Plain op)
by_form op Form.Byte words = byte_at words
by_form op Form.Short words = short_at words
by_form op Form.Local words = local_at op words
by_form op Form.Increment words = increment_at words
by_form op Form.NarrowPool words = constant_at op words
by_form op Form.Pool words = pool_at op words
by_form op Form.Interface words = member_at WordKind.MethodDescriptor op words
by_form op Form.ArrayCode words = array_code_at words
by_form op Form.Dimensions words = dimensions_at words
by_form op Form.Branch words = branch_at op words
by_form op Form.WideBranch words = branch_at op words
by_form op Form.TableSwitch words = table_at words
by_form op Form.LookupSwitch words = lookup_at words
by_form op Form.Wide words = None

-- a mnemonic and its operands
unfoldable pub operation_at : List Text → Option Operation
operation_at [] = None
operation_at (w ∷ words) = op_named w >>= (λ op. form_of op >>= (λ form. by_form op form words))
