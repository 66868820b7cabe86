-- Instructions that are printed are read again.
use Rattle.std.proofs.Common.{◌≡◌, ◌≢◌, ◌⊎◌, ℕ, ◌+◌, ◌-◌, ◌^◌, ◌<◌, ◌≤◌, Bool, true, false, not, ◌&&◌, List, [], ◌∷◌, ◌++◌, length, Option, Some, None, refl, sym, ap, subst, ◌∙◌, arith, inl, inr, length-append}
use Rattle.std.specs.Prelude.{if◌then◌else◌, ◌==◌, ◌||◌, nat_lt, nat_le, int_lt, map, option_map, codes, ℤ, pos, negsuc, ◌+ℤ◌, is_none}
use Rattle.std.specs.List.{list_all}
use Rattle.std.specs.Str.{bytes_eq}
use Rattle.std.specs.Str.Parse.{digits_value}
use Rattle.std.specs.Fmt.{decimal, signed_decimal}
use Rattle.std.proofs.lemmas.Bool.{and_parts, and_from, leb-true, ltb-true, lt-ltb, eqb-true, ne_eqb, cases_eq, lt-leb, le-ltb, le-leb, eq-eqb, not-true, false≢true}
use Rattle.std.proofs.Math.Seq.{take-append_seam, drop-append_seam}
use Rattle.opcode_table.specs.declared.form.Form.{Form}
use Rattle.opcode_table.specs.declared.form.Form.TheVariants as forms
use Rattle.opcode_table.specs.Table.{form_of, mnemonic_of, opcode}
use Rattle.opcode_table.specs.Decoding.{each_below}
use Rattle.opcode_table.specs.Each.{at_each}
use Rattle.class_file.specs.Text.{within, dimensions}
use Rattle.class_lines.specs.declared.line.Operation.{Operation}
use Rattle.class_lines.specs.declared.line.Constant.{Constant}
use Rattle.class_lines.specs.declared.line.Case.{Case}
use Rattle.class_lines.specs.declared.words.WordKind.{WordKind}
use Rattle.class_lines.specs.Fields.{is_inside, run_of, behind_run}
use Rattle.class_lines.specs.Words.{Text, is_plain, fits, keyword_at}
use Rattle.class_lines.specs.Numbers.{integer, number}
use Rattle.class_lines.specs.Quotes.{quoted, inside_quotes}
use Rattle.class_lines.specs.Operations.{op_below, op_named, byte_at, short_at, local_at, increment_at, array_code_at, float_of, double_of, class_constant, constant_of, constant_at, wide_constant_at, member_at, type_at, dimensions_at, pool_at, branch_at, default_at, cases_at, table_at, label_behind, is_key_byte, case_of, cases_above, lookup_at, by_form, operation_at}
use Rattle.class_lines.specs.Reading.{label_before, is_passed_over}
use Rattle.class_lines.specs.Printing.{hex_digits, constant_text, case_text, op_of}
use Rattle.class_lines.specs.Lines.{is_integer, is_constant, are_cases, has_form, of_form, is_plain_form, is_local_form, is_branch_form, is_member_type, is_class_op, is_operation}
use Rattle.class_lines.proofs.NumbersRead.{integer_decimal, plain_signed, key_signed, Within}
use Rattle.class_lines.proofs.TextRead.{hexadecimal_hex, quoted_quote}
use Rattle.class_lines.proofs.HeadsRead.{fits_plain, word_read, words_read, natural_read, integer_read}

either_of : (a b : Bool) → (a || b) ≡ true → (a ≡ true) ⊎ (b ≡ true)
either_of true b h = inl refl
either_of false b h = inr h

-- ---- the table

abbrev is_op : ℕ → Option ℕ → Bool
is_op op None = false
is_op op (Some found) = found == op

-- no word that begins another line
abbrev pub no_keyword : Text → Bool
no_keyword w = not (bytes_eq w (codes "class")) && (not (bytes_eq w (codes "field")) && (not (bytes_eq w (codes "method")) && (not (bytes_eq w (codes "catch")) && not (bytes_eq w (codes "end")))))

-- a word that an instruction may begin with
abbrev pub is_mnemonic : Text → Bool
is_mnemonic w = is_plain w && (is_none (label_before w) && (not (is_passed_over (w ∷ [])) && no_keyword w))

-- an opcode is found by its mnemonic
abbrev is_found : ℕ → Bool
is_found op = is_none (form_of op) || (is_op op (op_below 202 (mnemonic_of op)) && is_mnemonic (mnemonic_of op))

all_found : each_below 202 is_found ≡ true
unfolding opcode label_before
all_found = refl

found_op : (op : ℕ) (o : Option ℕ) → is_op op o ≡ true → o ≡ Some op
found_op op None h = absurd (false≢true h)
found_op op (Some found) h = ap Some (eqb-true found op h)

found : (op : ℕ) (form : Form) → op < 202 → form_of op ≡ Some form → (is_op op (op_below 202 (mnemonic_of op)) && is_mnemonic (mnemonic_of op)) ≡ true
found op form lt is = ap (λ (o : Option Form). is_none o || (is_op op (op_below 202 (mnemonic_of op)) && is_mnemonic (mnemonic_of op))) (sym is) ∙ at_each is_found 202 op lt all_found

mnemonic_found : (op : ℕ) (form : Form) → op < 202 → form_of op ≡ Some form → op_named (mnemonic_of op) ≡ Some op
unfolding op_named
mnemonic_found op form lt is = found_op op (op_below 202 (mnemonic_of op)) (and_parts _ _ (found op form lt is)).0

-- ---- ranges

pub within_of : (most : ℕ) (z : ℤ) → is_integer most z ≡ true → Within most z
within_of most (pos n) h = leb-true n most h
within_of most (negsuc n) h = leb-true n most h

-- ---- constants

not_quoted : (b : ℕ) (w : Text) → b ≢ 34 → quoted (b ∷ w) ≡ None
unfolding quoted inside_quotes
not_quoted b w ne = rw (ne_eqb b 34 ne) refl

plain_not_quoted : (w : Text) → is_plain w ≡ true → quoted w ≡ None
plain_not_quoted [] h = absurd (false≢true h)
plain_not_quoted (b ∷ w) h = not_quoted b w (λ e. let n = not-true (b == 34) (and_parts (not (b == 34)) (list_all is_inside (b ∷ w)) h).0 in absurd (false≢true (sym n ∙ eq-eqb b 34 e)))

none_of : {X : Type 0} (o : Option X) → is_none o ≡ true → o ≡ None
none_of None h = refl
none_of (Some x) h = absurd (false≢true h)

no_digits : (t : Bool) (n : ℕ) → option_map pos (if t && false then Some n else None) ≡ None
no_digits true n = refl
no_digits false n = refl

float_no_int : (w : Text) → integer (2 ^ 31 - 1) (codes "float:" ++ w) ≡ None
unfolding integer number
float_no_int w = no_digits (nat_lt 0 (length (codes "float:" ++ w))) (digits_value 10 (codes "float:" ++ w))

double_no_int : (w : Text) → integer (2 ^ 63 - 1) (codes "double:" ++ w) ≡ None
unfolding integer number
double_no_int w = no_digits (nat_lt 0 (length (codes "double:" ++ w))) (digits_value 10 (codes "double:" ++ w))

pub float_read : (bits : ℕ) → bits < 2 ^ 32 → float_of (codes "float:" ++ hex_digits 8 bits) ≡ Some bits
unfolding float_of
float_read bits lt =
    rw (le-leb 6 (length (codes "float:" ++ hex_digits 8 bits)) (omega arith)) (hexadecimal_hex 8 (2 ^ 32 - 1) bits (omega arith) lt (omega arith))

pub double_read : (bits : ℕ) → bits < 2 ^ 64 → double_of (codes "double:" ++ hex_digits 16 bits) ≡ Some bits
unfolding double_of
double_read bits lt =
    rw (le-leb 7 (length (codes "double:" ++ hex_digits 16 bits)) (omega arith)) (hexadecimal_hex 16 (2 ^ 64 - 1) bits (omega arith) lt (omega arith))

pub constant_read : (c : Constant) → is_constant c ≡ true → constant_of (constant_text c) ≡ Some c
unfolding constant_of class_constant
constant_read (Constant.Int n) h =
    rw (plain_not_quoted (signed_decimal n) (plain_signed n (2 ^ 31 - 1) (omega arith) (within_of (2 ^ 31 - 1) n h)), integer_decimal (2 ^ 31 - 1) n (omega arith) (within_of (2 ^ 31 - 1) n h)) refl
constant_read (Constant.Float bits) h =
    rw (not_quoted 102 (codes "loat:" ++ hex_digits 8 bits) (λ e. omega (arith, e)), float_no_int (hex_digits 8 bits), float_read bits (ltb-true bits (2 ^ 32) h)) refl
constant_read (Constant.Text text) h = rw (quoted_quote text h) refl
constant_read (Constant.Class class) h =
    let parts = and_parts (fits WordKind.TypeName class) (is_none (integer (2 ^ 31 - 1) class) && is_none (float_of class)) h in
    let others = and_parts (is_none (integer (2 ^ 31 - 1) class)) (is_none (float_of class)) parts.1 in
    rw (plain_not_quoted class (fits_plain WordKind.TypeName class parts.0), none_of (integer (2 ^ 31 - 1) class) others.0, none_of (float_of class) others.1, parts.0) refl

-- ---- operands

-- the words of the operands
abbrev pub operand_words : Operation → List Text
operand_words (Operation.Plain op) = []
operand_words (Operation.Bipush value) = signed_decimal value ∷ []
operand_words (Operation.Sipush value) = signed_decimal value ∷ []
operand_words (Operation.Local op index) = decimal index ∷ []
operand_words (Operation.Iinc index by) = decimal index ∷ signed_decimal by ∷ []
operand_words (Operation.Constant op constant) = constant_text constant ∷ []
operand_words (Operation.Long n) = signed_decimal n ∷ []
operand_words (Operation.Double bits) = (codes "double:" ++ hex_digits 16 bits) ∷ []
operand_words (Operation.Member op class name descriptor) = class ∷ name ∷ descriptor ∷ []
operand_words (Operation.Class op class) = class ∷ []
operand_words (Operation.NewArray code) = decimal code ∷ []
operand_words (Operation.Multi class dims) = class ∷ decimal dims ∷ []
operand_words (Operation.Branch op to) = to ∷ []
operand_words (Operation.TableSwitch low labels default) = signed_decimal low ∷ labels ++ codes "default" ∷ default ∷ []
operand_words (Operation.LookupSwitch cases default) = map case_text cases ++ codes "default" ∷ default ∷ []

-- a mnemonic and its operands are read as an instruction
pub record Reads (op : ℕ) (words : List Text) (o : Operation) : Type 0 where
  pub lt : op < 202
  pub mnemonic : is_mnemonic (mnemonic_of op) ≡ true
  pub read : operation_at (mnemonic_of op ∷ words) ≡ Some o

read_by : (op : ℕ) (form : Form) (words : List Text) (o : Operation) → op < 202 → form_of op ≡ Some form → by_form op form words ≡ Some o → operation_at (mnemonic_of op ∷ words) ≡ Some o
unfolding operation_at
read_by op form words o lt is h = rw (mnemonic_found op form lt is, is) h

from : (op : ℕ) (form : Form) (words : List Text) (o : Operation) → op < 202 → form_of op ≡ Some form → by_form op form words ≡ Some o → Reads op words o
from op form words o lt is h = record { lt = lt; mnemonic = (and_parts _ _ (found op form lt is)).1; read = read_by op form words o lt is h }

-- the opcode and the form
pub record Formed (op : ℕ) (test : Form → Bool) : Type 0 where
  pub lt : op < 202
  pub form : Form
  pub is : form_of op ≡ Some form
  pub passes : test form ≡ true

formed_by : (op : ℕ) (test : Form → Bool) (o : Option Form) → op < 202 → form_of op ≡ o → of_form test o ≡ true → Formed op test
formed_by op test None lt is h = absurd (false≢true h)
formed_by op test (Some form) lt is h = record { lt = lt; form = form; is = is; passes = h }

formed : (op : ℕ) (test : Form → Bool) → has_form op test ≡ true → Formed op test
formed op test h = let parts = and_parts (nat_lt op 202) (of_form test (form_of op)) h in formed_by op test (form_of op) (ltb-true op 202 parts.0) refl parts.1

plain_by : (op : ℕ) (form : Form) → is_plain_form form ≡ true → by_form op form [] ≡ Some (Operation.Plain op)
plain_by op forms.Plain h = refl
plain_by op form h = cc

local_by : (op index : ℕ) (form : Form) → is_local_form form ≡ true → index ≤ 65535 → by_form op form (decimal index ∷ []) ≡ Some (Operation.Local op index)
unfolding local_at
local_by op index forms.Local h le = rw (natural_read 65535 index [] le (omega arith)) refl
local_by op index form h le = cc

branch_is : (op : ℕ) (to : Text) → fits WordKind.Label to ≡ true → branch_at op (to ∷ []) ≡ Some (Operation.Branch op to)
unfolding branch_at
branch_is op to h = rw (word_read WordKind.Label to [] h) refl

branch_by : (op : ℕ) (to : Text) (form : Form) → is_branch_form form ≡ true → fits WordKind.Label to ≡ true → by_form op form (to ∷ []) ≡ Some (Operation.Branch op to)
branch_by op to forms.Branch h is = branch_is op to is
branch_by op to forms.WideBranch h is = branch_is op to is
branch_by op to form h is = cc

-- ---- opcodes of the constant pool

abbrev is_pool_form : Form → Bool
is_pool_form Form.Pool = true
is_pool_form _ = false

-- the opcodes that name a member or a class by an index of two bytes, but for invokeinterface
abbrev names_entry : ℕ → Bool
names_entry op = not (within 178 185 op) || of_form is_pool_form (form_of op)

all_pool : each_below 202 names_entry ≡ true
unfolding opcode
all_pool = refl

pool_of : (o : Option Form) → of_form is_pool_form o ≡ true → o ≡ Some Form.Pool
pool_of None h = cc
pool_of (Some forms.Pool) h = refl
pool_of (Some form) h = cc

pool_form : (op : ℕ) → within 178 185 op ≡ true → form_of op ≡ Some Form.Pool
pool_form op h =
    let range = and_parts (nat_le 178 op) (nat_lt op 185) h in
    let high = ltb-true op 185 range.1 in
    pool_of (form_of op) (ap (λ (t : Bool). not t || of_form is_pool_form (form_of op)) (sym h) ∙ at_each names_entry 202 op (omega arith) all_pool)

member_read : (kind : WordKind) (op : ℕ) (class name descriptor : Text) → fits WordKind.TypeName class ≡ true → fits WordKind.MemberName name ≡ true → fits kind descriptor ≡ true
    → member_at kind op (class ∷ name ∷ descriptor ∷ []) ≡ Some (Operation.Member op class name descriptor)
unfolding member_at
member_read kind op class name descriptor c n d =
    rw (word_read WordKind.TypeName class (name ∷ descriptor ∷ []) c, word_read WordKind.MemberName name (descriptor ∷ []) n, word_read kind descriptor [] d) refl

field_pool : (op : ℕ) (words : List Text) → within 178 182 op ≡ true → pool_at op words ≡ member_at WordKind.FieldDescriptor op words
unfolding pool_at
field_pool op words h =
    let low = leb-true 178 op (and_parts (nat_le 178 op) (nat_lt op 182) h).0 in
    rw (ne_eqb op 19 (λ e. omega (arith, e)), ne_eqb op 20 (λ e. omega (arith, e)), h) refl

not_field : (op : ℕ) → 182 ≤ op → within 178 182 op ≡ false
not_field op low = rw (le-leb 178 op (omega arith), le-ltb op 182 low) refl

method_pool : (op : ℕ) (words : List Text) → within 182 185 op ≡ true → pool_at op words ≡ member_at WordKind.MethodDescriptor op words
unfolding pool_at
method_pool op words h =
    let low = leb-true 182 op (and_parts (nat_le 182 op) (nat_lt op 185) h).0 in
    rw (ne_eqb op 19 (λ e. omega (arith, e)), ne_eqb op 20 (λ e. omega (arith, e)), not_field op low, h) refl

type_read : (op : ℕ) (class : Text) → fits WordKind.TypeName class ≡ true → (op == 189 && nat_le 255 (dimensions class)) ≡ false → type_at op (class ∷ []) ≡ Some (Operation.Class op class)
unfolding type_at
type_read op class c few = rw (word_read WordKind.TypeName class [] c, few) refl

class_pool : (op : ℕ) (words : List Text) → 185 < op → pool_at op words ≡ type_at op words
unfolding pool_at
class_pool op words lt =
    rw (ne_eqb op 19 (λ e. omega (arith, e)), ne_eqb op 20 (λ e. omega (arith, e)), not_field op (omega arith), le-leb 182 op (omega arith), le-ltb op 185 (omega arith)) refl

few_dimensions : (op : ℕ) (class : Text) → op ≢ 189 → (op == 189 && nat_le 255 (dimensions class)) ≡ false
few_dimensions op class ne = rw (ne_eqb op 189 ne) refl

-- ---- labels

default_read : (default : Text) → fits WordKind.Label default ≡ true → default_at (codes "default" ∷ default ∷ []) ≡ Some default
unfolding default_at keyword_at
default_read default h = rw (word_read WordKind.Label default [] h) refl

pub cases_read : (words : List Text) (default : Text) → fits WordKind.Label default ≡ true → cases_at (words ++ codes "default" ∷ default ∷ []) ≡ Some (default, words)
unfolding cases_at
cases_read words default h =
    let last : List Text = codes "default" ∷ default ∷ [] in
    let all : List Text = words ++ last in
    let n : length all - 2 ≡ length words = omega (arith, length-append words last) in
    rw (le-ltb (length all) 2 (omega (arith, length-append words last)), n, take-append_seam words last, drop-append_seam words last, default_read default h) refl

key_run : (word label : Text) → list_all is_key_byte word ≡ true → run_of is_key_byte (word ++ 58 ∷ label) ≡ word
key_run [] label h = refl
key_run (b ∷ word) label h =
    let both = and_parts (is_key_byte b) (list_all is_key_byte word) h in
    ap (λ (t : Bool). if t then b ∷ run_of is_key_byte (word ++ 58 ∷ label) else []) both.0 ∙ ap (λ (r : Text). b ∷ r) (key_run word label both.1)

key_behind : (word label : Text) → list_all is_key_byte word ≡ true → behind_run is_key_byte (word ++ 58 ∷ label) ≡ 58 ∷ label
key_behind [] label h = refl
key_behind (b ∷ word) label h =
    let both = and_parts (is_key_byte b) (list_all is_key_byte word) h in
    ap (λ (t : Bool). if t then behind_run is_key_byte (word ++ 58 ∷ label) else b ∷ word ++ 58 ∷ label) both.0 ∙ key_behind word label both.1

label_read : (label : Text) → fits WordKind.Label label ≡ true → label_behind (58 ∷ label) ≡ Some label
unfolding label_behind
label_read label h = rw h refl

pub case_read : (c : Case) → is_integer (2 ^ 31 - 1) c.key ≡ true → fits WordKind.Label c.label ≡ true → case_of (case_text c) ≡ Some c
unfolding case_of
case_read c key label =
    let within = within_of (2 ^ 31 - 1) c.key key in
    let keys = key_signed c.key (2 ^ 31 - 1) (omega arith) within in
    rw (key_run (signed_decimal c.key) c.label keys, key_behind (signed_decimal c.key) c.label keys, integer_decimal (2 ^ 31 - 1) c.key (omega arith) within, label_read c.label label) refl

pub all_cases_read : (key : ℤ) (cases : List Case) → are_cases key cases ≡ true → cases_above key (map case_text cases) ≡ Some cases
all_cases_read key [] h = refl
all_cases_read key (c ∷ cases) h =
    let above = and_parts (int_lt key c.key) (is_integer (2 ^ 31 - 1) c.key && (fits WordKind.Label c.label && are_cases c.key cases)) h in
    let int = and_parts (is_integer (2 ^ 31 - 1) c.key) (fits WordKind.Label c.label && are_cases c.key cases) above.1 in
    let label = and_parts (fits WordKind.Label c.label) (are_cases c.key cases) int.1 in
    rw (case_read c int.0 label.0, above.0, all_cases_read c.key cases label.1) refl

-- ---- operands of one kind

byte_read : (z : ℤ) → Within 127 z → byte_at (signed_decimal z ∷ []) ≡ Some (Operation.Bipush z)
unfolding byte_at
byte_read z h = rw (integer_read 127 z [] (omega arith) h) refl

short_read : (z : ℤ) → Within 32767 z → short_at (signed_decimal z ∷ []) ≡ Some (Operation.Sipush z)
unfolding short_at
short_read z h = rw (integer_read 32767 z [] (omega arith) h) refl

increment_read : (index : ℕ) (by : ℤ) → index ≤ 65535 → Within 32767 by → increment_at (decimal index ∷ signed_decimal by ∷ []) ≡ Some (Operation.Iinc index by)
unfolding increment_at
increment_read index by le h = rw (natural_read 65535 index (signed_decimal by ∷ []) le (omega arith), integer_read 32767 by [] (omega arith) h) refl

array_code_read : (code : ℕ) → within 4 12 code ≡ true → array_code_at (decimal code ∷ []) ≡ Some (Operation.NewArray code)
unfolding array_code_at
array_code_read code h =
    let range = and_parts (nat_le 4 code) (nat_lt code 12) h in
    let high = ltb-true code 12 range.1 in
    rw (natural_read 11 code [] (omega arith) (omega arith), range.0) refl

multi_read : (class : Text) (dims : ℕ) → fits WordKind.TypeName class ≡ true → dims ≤ 255 → (nat_le 1 dims && nat_le dims (dimensions class)) ≡ true → dimensions_at (class ∷ decimal dims ∷ []) ≡ Some (Operation.Multi class dims)
unfolding dimensions_at
multi_read class dims c le h = rw (word_read WordKind.TypeName class (decimal dims ∷ []) c, natural_read 255 dims [] le (omega arith), h) refl

constant_at_read : (op : ℕ) (c : Constant) → is_constant c ≡ true → constant_at op (constant_text c ∷ []) ≡ Some (Operation.Constant op c)
unfolding constant_at
constant_at_read op c h = rw (constant_read c h) refl

constant_pool_read : (c : Constant) → is_constant c ≡ true → pool_at 19 (constant_text c ∷ []) ≡ Some (Operation.Constant 19 c)
unfolding pool_at
constant_pool_read c h = constant_at_read 19 c h

long_read : (n : ℤ) → Within (2 ^ 63 - 1) n → pool_at 20 (signed_decimal n ∷ []) ≡ Some (Operation.Long n)
unfolding pool_at wide_constant_at
long_read n h = rw (integer_decimal (2 ^ 63 - 1) n (omega arith) h) refl

double_pool_read : (bits : ℕ) → bits < 2 ^ 64 → pool_at 20 ((codes "double:" ++ hex_digits 16 bits) ∷ []) ≡ Some (Operation.Double bits)
unfolding pool_at wide_constant_at
double_pool_read bits lt = rw (double_no_int (hex_digits 16 bits), double_read bits lt) refl

member_op : (op : ℕ) (class name descriptor : Text) → fits WordKind.TypeName class ≡ true → fits WordKind.MemberName name ≡ true → is_member_type op descriptor ≡ true
    → Reads op (class ∷ name ∷ descriptor ∷ []) (Operation.Member op class name descriptor)
unfolding opcode
member_op op class name descriptor c n h =
    let words : List Text = class ∷ name ∷ descriptor ∷ [] in
    let o : Operation = Operation.Member op class name descriptor in
    elim (either_of (within 178 182 op && fits WordKind.FieldDescriptor descriptor) (within 182 186 op && fits WordKind.MethodDescriptor descriptor) h) [
      | inl field ↦
          let d = and_parts (within 178 182 op) (fits WordKind.FieldDescriptor descriptor) field in
          let range = and_parts (nat_le 178 op) (nat_lt op 182) d.0 in
          let high = ltb-true op 182 range.1 in
          let wide : within 178 185 op ≡ true = and_from (nat_le 178 op) (nat_lt op 185) range.0 (lt-ltb op 185 (omega arith)) in
          from op Form.Pool words o (omega arith) (pool_form op wide) (field_pool op words d.0 ∙ member_read WordKind.FieldDescriptor op class name descriptor c n d.1)
      | inr method ↦
          let d = and_parts (within 182 186 op) (fits WordKind.MethodDescriptor descriptor) method in
          let range = and_parts (nat_le 182 op) (nat_lt op 186) d.0 in
          let low = leb-true 182 op range.0 in
          let high = ltb-true op 186 range.1 in
          elim (cases_eq op 185) [
            | inl e ↦ subst (λ (k : ℕ). Reads k words (Operation.Member k class name descriptor)) (sym e)
                (from 185 Form.Interface words (Operation.Member 185 class name descriptor) (omega arith) refl (member_read WordKind.MethodDescriptor 185 class name descriptor c n d.1))
            | inr ne ↦
                let narrow : within 182 185 op ≡ true = and_from (nat_le 182 op) (nat_lt op 185) range.0 (lt-ltb op 185 (omega (arith, ne))) in
                let wide : within 178 185 op ≡ true = and_from (nat_le 178 op) (nat_lt op 185) (le-leb 178 op (omega arith)) (lt-ltb op 185 (omega (arith, ne))) in
                from op Form.Pool words o (omega arith) (pool_form op wide) (method_pool op words narrow ∙ member_read WordKind.MethodDescriptor op class name descriptor c n d.1)
          ]
    ]

class_at_op : (op : ℕ) (class : Text) → op < 202 → 185 < op → form_of op ≡ Some Form.Pool → fits WordKind.TypeName class ≡ true → (op == 189 && nat_le 255 (dimensions class)) ≡ false → Reads op (class ∷ []) (Operation.Class op class)
class_at_op op class lt low form c few = from op Form.Pool (class ∷ []) (Operation.Class op class) lt form (class_pool op (class ∷ []) low ∙ type_read op class c few)

class_op : (op : ℕ) (class : Text) → fits WordKind.TypeName class ≡ true → is_class_op op class ≡ true → Reads op (class ∷ []) (Operation.Class op class)
unfolding opcode
class_op op class c h =
    let Goal : ℕ → Type 0 = λ k. Reads k (class ∷ []) (Operation.Class k class) in
    elim (either_of (op == 187) ((op == 189 && nat_lt (dimensions class) 255) || within 192 194 op) h) [
      | inl e ↦ subst Goal (sym (eqb-true op 187 e)) (class_at_op 187 class (omega arith) (omega arith) refl c refl)
      | inr rest ↦ elim (either_of (op == 189 && nat_lt (dimensions class) 255) (within 192 194 op) rest) [
        | inl array ↦
            let parts = and_parts (op == 189) (nat_lt (dimensions class) 255) array in
            subst Goal (sym (eqb-true op 189 parts.0)) (class_at_op 189 class (omega arith) (omega arith) refl c (lt-leb 255 (dimensions class) (ltb-true (dimensions class) 255 parts.1)))
        | inr checks ↦
            let range = and_parts (nat_le 192 op) (nat_lt op 194) checks in
            let low = leb-true 192 op range.0 in
            let high = ltb-true op 194 range.1 in
            elim (cases_eq op 192) [
              | inl e ↦ subst Goal (sym e) (class_at_op 192 class (omega arith) (omega arith) refl c refl)
              | inr ne ↦ let e : op ≡ 193 = omega (arith, ne) in subst Goal (sym e) (class_at_op 193 class (omega arith) (omega arith) refl c refl)
            ]
      ]
    ]

table_read : (low : ℤ) (labels : List Text) (default : Text) → is_operation (Operation.TableSwitch low labels default) ≡ true → table_at (signed_decimal low ∷ labels ++ codes "default" ∷ default ∷ []) ≡ Some (Operation.TableSwitch low labels default)
unfolding table_at
table_read low labels default h =
    let few : Bool = nat_lt 0 (length labels) && int_lt (low +ℤ pos (length labels)) (pos (2 ^ 31 + 1)) in
    let l = and_parts (is_integer (2 ^ 31 - 1) low) (list_all (fits WordKind.Label) labels && (fits WordKind.Label default && few)) h in
    let ls = and_parts (list_all (fits WordKind.Label) labels) (fits WordKind.Label default && few) l.1 in
    let d = and_parts (fits WordKind.Label default) few ls.1 in
    rw (
      integer_read (2 ^ 31 - 1) low (labels ++ codes "default" ∷ default ∷ []) (omega arith) (within_of (2 ^ 31 - 1) low l.0),
      cases_read labels default d.0,
      words_read WordKind.Label labels ls.0,
      d.1,
    ) refl

lookup_read : (cases : List Case) (default : Text) → are_cases (negsuc (2 ^ 31)) cases ≡ true → fits WordKind.Label default ≡ true → lookup_at (map case_text cases ++ codes "default" ∷ default ∷ []) ≡ Some (Operation.LookupSwitch cases default)
unfolding lookup_at
lookup_read cases default c d = rw (cases_read (map case_text cases) default d, all_cases_read (negsuc (2 ^ 31)) cases c) refl

-- ---- each instruction

pub operation_read : (o : Operation) → is_operation o ≡ true → Reads (op_of o) (operand_words o) o
unfolding opcode
operation_read (Operation.Plain op) h =
    let f = formed op is_plain_form h in from op f.form [] (Operation.Plain op) f.lt f.is (plain_by op f.form f.passes)
operation_read (Operation.Bipush value) h = from 16 Form.Byte (signed_decimal value ∷ []) (Operation.Bipush value) (omega arith) refl (byte_read value (within_of 127 value h))
operation_read (Operation.Sipush value) h = from 17 Form.Short (signed_decimal value ∷ []) (Operation.Sipush value) (omega arith) refl (short_read value (within_of 32767 value h))
operation_read (Operation.Local op index) h =
    let parts = and_parts (has_form op is_local_form) (nat_le index 65535) h in
    let f = formed op is_local_form parts.0 in
    from op f.form (decimal index ∷ []) (Operation.Local op index) f.lt f.is (local_by op index f.form f.passes (leb-true index 65535 parts.1))
operation_read (Operation.Iinc index by) h =
    let parts = and_parts (nat_le index 65535) (is_integer 32767 by) h in
    from 132 Form.Increment (decimal index ∷ signed_decimal by ∷ []) (Operation.Iinc index by) (omega arith) refl (increment_read index by (leb-true index 65535 parts.0) (within_of 32767 by parts.1))
operation_read (Operation.Constant op constant) h =
    let parts = and_parts (op == 18 || op == 19) (is_constant constant) h in
    elim (either_of (op == 18) (op == 19) parts.0) [
      | inl e ↦ subst (λ (n : ℕ). Reads n (constant_text constant ∷ []) (Operation.Constant n constant)) (sym (eqb-true op 18 e))
          (from 18 Form.NarrowPool (constant_text constant ∷ []) (Operation.Constant 18 constant) (omega arith) refl (constant_at_read 18 constant parts.1))
      | inr e ↦ subst (λ (n : ℕ). Reads n (constant_text constant ∷ []) (Operation.Constant n constant)) (sym (eqb-true op 19 e))
          (from 19 Form.Pool (constant_text constant ∷ []) (Operation.Constant 19 constant) (omega arith) refl (constant_pool_read constant parts.1))
    ]
operation_read (Operation.Long n) h = from 20 Form.Pool (signed_decimal n ∷ []) (Operation.Long n) (omega arith) refl (long_read n (within_of (2 ^ 63 - 1) n h))
operation_read (Operation.Double bits) h = from 20 Form.Pool ((codes "double:" ++ hex_digits 16 bits) ∷ []) (Operation.Double bits) (omega arith) refl (double_pool_read bits (ltb-true bits (2 ^ 64) h))
operation_read (Operation.Member op class name descriptor) h =
    let c = and_parts (fits WordKind.TypeName class) (fits WordKind.MemberName name && is_member_type op descriptor) h in
    let n = and_parts (fits WordKind.MemberName name) (is_member_type op descriptor) c.1 in
    member_op op class name descriptor c.0 n.0 n.1
operation_read (Operation.Class op class) h =
    let parts = and_parts (fits WordKind.TypeName class) (is_class_op op class) h in class_op op class parts.0 parts.1
operation_read (Operation.NewArray code) h = from 188 Form.ArrayCode (decimal code ∷ []) (Operation.NewArray code) (omega arith) refl (array_code_read code h)
operation_read (Operation.Multi class dims) h =
    let c = and_parts (fits WordKind.TypeName class) (nat_le dims 255 && (nat_le 1 dims && nat_le dims (dimensions class))) h in
    let d = and_parts (nat_le dims 255) (nat_le 1 dims && nat_le dims (dimensions class)) c.1 in
    from 197 Form.Dimensions (class ∷ decimal dims ∷ []) (Operation.Multi class dims) (omega arith) refl (multi_read class dims c.0 (leb-true dims 255 d.0) d.1)
operation_read (Operation.Branch op to) h =
    let parts = and_parts (has_form op is_branch_form) (fits WordKind.Label to) h in
    let f = formed op is_branch_form parts.0 in
    from op f.form (to ∷ []) (Operation.Branch op to) f.lt f.is (branch_by op to f.form f.passes parts.1)
operation_read (Operation.TableSwitch low labels default) h =
    from 170 Form.TableSwitch (signed_decimal low ∷ labels ++ codes "default" ∷ default ∷ []) (Operation.TableSwitch low labels default) (omega arith) refl (table_read low labels default h)
operation_read (Operation.LookupSwitch cases default) h =
    let parts = and_parts (are_cases (negsuc (2 ^ 31)) cases) (fits WordKind.Label default) h in
    from 171 Form.LookupSwitch (map case_text cases ++ codes "default" ∷ default ∷ []) (Operation.LookupSwitch cases default) (omega arith) refl (lookup_read cases default parts.0 parts.1)
