-- What is read is of the form.
use Rattle.std.proofs.Common.{◌≡◌, ℕ, zero, suc, ◌+◌, ◌-◌, ◌^◌, ◌<◌, ◌≤◌, Bool, true, false, not, ◌&&◌, List, [], ◌∷◌, length, take, drop, Option, Some, None, refl, sym, ap, subst, ◌∙◌, arith, inl, inr}
use Rattle.std.specs.Prelude.{if◌then◌else◌, ◌==◌, ◌||◌, nat_lt, nat_le, int_lt, option_map, codes, bit_or, slice_index, ℤ, pos, negsuc, neg_ℤ, ◌+ℤ◌, Result, Ok, Err, IfOk, IfSome}
use Rattle.std.specs.Option.{option_or}
use Rattle.std.specs.List.{list_all}
use Rattle.std.specs.Str.{bytes_eq}
use Rattle.std.specs.Str.Parse.{digits_value}
use Rattle.std.proofs.lemmas.Bool.{and_parts, and_from, leb-true, le-leb, ltb-true, lt-ltb, leb-false, eqb-true, cases_Bool, false≢true}
use Rattle.std.proofs.lemmas.Nat.{or_lt}
use Rattle.opcode_table.specs.declared.form.Form.{Form}
use Rattle.opcode_table.specs.declared.form.Form.TheVariants as forms
use Rattle.opcode_table.specs.Table.{form_of, mnemonic_of, opcode}
use Rattle.opcode_table.specs.Decoding.{each_below}
use Rattle.opcode_table.specs.Each.{at_each}
use Rattle.class_file.specs.Text.{within, dimensions}
use Rattle.class_lines.specs.declared.line.Line.{Line}
use Rattle.class_lines.specs.declared.line.MemberHead.{MemberHead}
use Rattle.class_lines.specs.declared.line.Operation.{Operation}
use Rattle.class_lines.specs.declared.line.Constant.{Constant}
use Rattle.class_lines.specs.declared.line.Case.{Case}
use Rattle.class_lines.specs.declared.words.WordKind.{WordKind}
use Rattle.class_lines.specs.declared.fault.LineFault.{LineFault}
use Rattle.class_lines.specs.Fields.{fields}
use Rattle.class_lines.specs.Words.{◌>>=◌, Text, fits, keyword_at, word_at, words_at, natural_at, integer_at, number_after, ended, Gives}
use Rattle.class_lines.specs.Numbers.{is_digit, natural, integer, number, hexadecimal}
use Rattle.class_lines.specs.Quotes.{is_text, quoted, inside_quotes, unescaped}
use Rattle.class_lines.specs.Heads.{flags_at, interfaces_at, version_at, class_at, head_at, field_at, takes_few, method_at, bare_at, static_field_at, static_method_at, any_field_at, any_method_at}
use Rattle.class_lines.specs.Operations.{op_below, op_named, byte_at, short_at, local_at, increment_at, array_code_at, behind, float_of, double_of, class_constant, constant_of, constant_at, wide_constant_at, member_at, type_at, dimensions_at, pool_at, branch_at, default_at, cases_at, table_at, label_behind, case_of, cases_above, lookup_at, by_form, operation_at}
use Rattle.class_lines.specs.Reading.{label_before, labelled_or, step_at, caught_at, catch_at, line_at, is_passed_over, read_as}
use Rattle.class_lines.specs.Lines.{is_integer, is_constant, are_cases, has_form, of_form, is_local_form, is_branch_form, is_member_type, is_class_op, is_operation, is_head, is_caught, is_line}

-- ---- steps

-- what is found, if anything is, is so
abbrev pub Finds : {A : Type 0} → (A → Type 0) → Option A → Type 0
Finds P None = Unit {0}
Finds P (Some x) = P x

then_finds : {A B : Type 0} (P : A → Type 0) (Q : B → Type 0) (o : Option A) (f : A → Option B) → Finds P o → ((x : A) → P x → Finds Q (f x)) → Finds Q (o >>= f)
then_finds P Q None f h next = tt
then_finds P Q (Some x) f h next = next x h

maps_finds : {A B : Type 0} (P : A → Type 0) (Q : B → Type 0) (o : Option A) (f : A → B) → Finds P o → ((x : A) → P x → Q (f x)) → Finds Q (option_map f o)
maps_finds P Q None f h next = tt
maps_finds P Q (Some x) f h next = next x h

or_finds : {A : Type 0} (Q : A → Type 0) (a b : Option A) → Finds Q a → Finds Q b → Finds Q (option_or a b)
or_finds Q None b ha hb = hb
or_finds Q (Some x) b ha hb = ha

if_finds : {A : Type 0} (Q : A → Type 0) (t : Bool) (o : Option A) → (t ≡ true → Finds Q o) → Finds Q (if t then o else None)
if_finds Q true o h = h refl
if_finds Q false o h = tt

else_finds : {A : Type 0} (Q : A → Type 0) (t : Bool) (o : Option A) → (t ≡ false → Finds Q o) → Finds Q (if t then None else o)
else_finds Q true o h = tt
else_finds Q false o h = h refl

ended_finds : {A : Type 0} (Q : A → Type 0) (words : List Text) (x : A) → Q x → Finds Q (ended words x)
ended_finds Q [] x h = h
ended_finds Q (w ∷ words) x h = tt

anything : {A : Type 0} (o : Option A) → Finds (λ x. Unit {0}) o
anything None = tt
anything (Some x) = tt

-- ---- words and numbers

words_fit : (kind : WordKind) (words : List Text) → Finds (λ (x : Text × List Text). fits kind x.0 ≡ true) (word_at kind words)
unfolding word_at
words_fit kind [] = tt
words_fit kind (w ∷ words) = if_finds (λ (x : Text × List Text). fits kind x.0 ≡ true) (fits kind w) (Some (w, words)) (λ is. is)

all_fit : (kind : WordKind) (words : List Text) → Finds (λ l. list_all (fits kind) l ≡ true) (words_at kind words)
unfolding words_at
all_fit kind words = if_finds (λ l. list_all (fits kind) l ≡ true) (list_all (fits kind) words) (Some words) (λ is. is)

number_le : (radix most : ℕ) (digits : Text) → Finds (λ n. n ≤ most) (number radix most digits)
unfolding number
number_le radix most digits =
    if_finds (λ n. n ≤ most) (nat_lt 0 (length digits) && (list_all (is_digit radix) digits && nat_le (digits_value radix digits) most)) (Some (digits_value radix digits))
    (λ is. leb-true (digits_value radix digits) most (and_parts (list_all (is_digit radix) digits) _ (and_parts (nat_lt 0 (length digits)) _ is).1).1)

naturals_le : (most : ℕ) (words : List Text) → Finds (λ (x : ℕ × List Text). x.0 ≤ most) (natural_at most words)
unfolding natural_at
naturals_le most [] = tt
naturals_le most (w ∷ words) = maps_finds (λ n. n ≤ most) (λ (x : ℕ × List Text). x.0 ≤ most) (natural most w) (λ n. (n, words)) (number_le 10 most w) (λ n le. le)

negative_is : (most n : ℕ) → n ≤ suc most → is_integer most (neg_ℤ (pos n)) ≡ true
negative_is most zero le = le-leb 0 most (omega arith)
negative_is most (suc n) le = le-leb n most (omega arith)

integer_is : (most : ℕ) (w : Text) → Finds (λ z. is_integer most z ≡ true) (integer most w)
unfolding integer
integer_is most [] = tt
integer_is most (b ∷ digits) =
    elim (b == 45) as (λ t. Finds (λ z. is_integer most z ≡ true) (if t then option_map (λ n. neg_ℤ (pos n)) (natural (suc most) digits) else option_map pos (natural most (b ∷ digits)))) [
      | true ↦ maps_finds (λ n. n ≤ suc most) (λ z. is_integer most z ≡ true) (natural (suc most) digits) (λ n. neg_ℤ (pos n)) (number_le 10 (suc most) digits) (negative_is most)
      | false ↦ maps_finds (λ n. n ≤ most) (λ z. is_integer most z ≡ true) (natural most (b ∷ digits)) pos (number_le 10 most (b ∷ digits)) (λ n le. le-leb n most le)
    ]

integers_are : (most : ℕ) (words : List Text) → Finds (λ (x : ℤ × List Text). is_integer most x.0 ≡ true) (integer_at most words)
unfolding integer_at
integers_are most [] = tt
integers_are most (w ∷ words) = maps_finds (λ z. is_integer most z ≡ true) (λ (x : ℤ × List Text). is_integer most x.0 ≡ true) (integer most w) (λ n. (n, words)) (integer_is most w) (λ n is. is)

after_le : (word : Text) (most : ℕ) (words : List Text) → Finds (λ (x : ℕ × List Text). x.0 ≤ most) (number_after word most words)
unfolding number_after
after_le word most words = then_finds (λ rest. Unit {0}) (λ (x : ℕ × List Text). x.0 ≤ most) (keyword_at word words) (natural_at most) (anything (keyword_at word words)) (λ rest _. naturals_le most rest)

hexadecimal_le : (count most : ℕ) (w : Text) → Finds (λ n. n ≤ most) (hexadecimal count most w)
unfolding hexadecimal
hexadecimal_le count most w = if_finds (λ n. n ≤ most) (length w == count) (number 16 most w) (λ is. number_le 16 most w)

-- ---- heads

abbrev OfForm : Line → Type 0
OfForm line = is_line line ≡ true

flags_le : (default : ℕ) (words : List Text) → default ≤ 65535 → Finds (λ (x : ℕ × List Text). x.0 ≤ 65535) (flags_at default words)
unfolding flags_at
flags_le default [] le = le
flags_le default (w ∷ words) le =
    elim (bytes_eq w (codes "flags")) as (λ t. Finds (λ (x : ℕ × List Text). x.0 ≤ 65535) (if t then natural_at 65535 words else Some (default, w ∷ words))) [ true ↦ naturals_le 65535 words | false ↦ le ]

interfaces_fit : (words : List Text) → Finds (λ l. list_all (fits WordKind.ClassName) l ≡ true) (interfaces_at words)
unfolding interfaces_at
interfaces_fit [] = refl
interfaces_fit (w ∷ []) = tt
interfaces_fit (w ∷ v ∷ words) = if_finds (λ l. list_all (fits WordKind.ClassName) l ≡ true) (bytes_eq w (codes "interface")) (words_at WordKind.ClassName (v ∷ words)) (λ is. all_fit WordKind.ClassName (v ∷ words))

version_within : (words : List Text) → Finds (λ (x : ℕ × List Text). within 46 50 x.0 ≡ true) (version_at words)
unfolding version_at
version_within words =
    then_finds (λ (x : ℕ × List Text). x.0 ≤ 49) (λ (x : ℕ × List Text). within 46 50 x.0 ≡ true) (number_after (codes "version") 49 words) (λ v. if nat_le 46 v.0 then Some v else None) (after_le (codes "version") 49 words)
    (λ v le. if_finds (λ (x : ℕ × List Text). within 46 50 x.0 ≡ true) (nat_le 46 v.0) (Some v) (λ low. and_from (nat_le 46 v.0) (nat_lt v.0 50) low (lt-ltb v.0 50 (omega arith))))

class_form : (words : List Text) → Finds OfForm (class_at words)
unfolding class_at
class_form words =
    then_finds (λ (x : Text × List Text). fits WordKind.ClassName x.0 ≡ true) OfForm _ _ (words_fit WordKind.ClassName words) (λ name n.
    then_finds (λ rest. Unit {0}) OfForm _ _ (anything (keyword_at (codes "super") name.1)) (λ super _.
    then_finds (λ (x : Text × List Text). fits WordKind.ClassName x.0 ≡ true) OfForm _ _ (words_fit WordKind.ClassName super) (λ super_name s.
    then_finds (λ (x : ℕ × List Text). within 46 50 x.0 ≡ true) OfForm _ _ (version_within super_name.1) (λ version v.
    then_finds (λ (x : ℕ × List Text). x.0 ≤ 65535) OfForm _ _ (flags_le 0x21 version.1 (omega arith)) (λ flags f.
    then_finds (λ l. list_all (fits WordKind.ClassName) l ≡ true) OfForm _ _ (interfaces_fit flags.1) (λ interfaces i.
    rw (n, s, v, le-leb flags.0 65535 f, i) refl))))))

-- some flags and others are flags
flags_or : (a b : ℕ) → a ≤ 65535 → b ≤ 65535 → nat_le (bit_or a b) 65535 ≡ true
flags_or a b la lb = le-leb (bit_or a b) 65535 (let lt = or_lt 16 a b (omega arith) (omega arith) in omega (arith, lt))

head_form : (kind : WordKind) (added : ℕ) (words : List Text) → added ≤ 65535 → Finds (λ (x : MemberHead × List Text). is_head kind x.0 ≡ true) (head_at kind added words)
unfolding head_at
head_form kind added words le =
    let Q : MemberHead × List Text → Type 0 = λ x. is_head kind x.0 ≡ true in
    then_finds (λ (x : Text × List Text). fits WordKind.MemberName x.0 ≡ true) Q _ _ (words_fit WordKind.MemberName words) (λ name n.
    then_finds (λ (x : Text × List Text). fits kind x.0 ≡ true) Q _ _ (words_fit kind name.1) (λ descriptor d.
    then_finds (λ (x : ℕ × List Text). x.0 ≤ 65535) Q _ _ (flags_le 1 descriptor.1 (omega arith)) (λ flags f.
    rw (n, d, flags_or flags.0 added f le) refl)))

field_form : (added : ℕ) (words : List Text) → added ≤ 65535 → Finds OfForm (field_at added words)
unfolding field_at
field_form added words le =
    then_finds (λ (x : MemberHead × List Text). is_head WordKind.FieldDescriptor x.0 ≡ true) OfForm _ _ (head_form WordKind.FieldDescriptor added words le) (λ head h.
    ended_finds OfForm head.1 (Line.Field head.0) h)

-- a line that is found where nothing is left
one_line : (words : List Text) (line : Line) → Finds (λ l. l ≡ line) (ended words line)
one_line [] line = refl
one_line (w ∷ words) line = tt

method_form : (added : ℕ) (words : List Text) → added ≤ 65535 → Finds OfForm (method_at added words)
unfolding method_at
method_form added words le =
    then_finds (λ (x : MemberHead × List Text). is_head WordKind.MethodDescriptor x.0 ≡ true) OfForm _ _ (head_form WordKind.MethodDescriptor added words le) (λ head h.
    then_finds (λ (x : ℕ × List Text). x.0 ≤ 65535) OfForm _ _ (after_le (codes "stack") 65535 head.1) (λ stack s.
    then_finds (λ (x : ℕ × List Text). x.0 ≤ 65535) OfForm _ _ (after_le (codes "locals") 65535 stack.1) (λ locals l.
    then_finds (λ line. line ≡ Line.Method head.0 stack.0 locals.0) OfForm _ _ (one_line locals.1 (Line.Method head.0 stack.0 locals.0)) (λ line is.
    if_finds OfForm (takes_few head.0) (Some line) (λ few.
    subst OfForm (sym is) (rw (h, few, le-leb stack.0 65535 s, le-leb locals.0 65535 l) refl))))))

bare_form : (words : List Text) → Finds OfForm (bare_at words)
unfolding bare_at
bare_form words =
    then_finds (λ (x : Text × List Text). fits WordKind.MemberName x.0 ≡ true) OfForm _ _ (words_fit WordKind.MemberName words) (λ name n.
    then_finds (λ (x : Text × List Text). fits WordKind.MethodDescriptor x.0 ≡ true) OfForm _ _ (words_fit WordKind.MethodDescriptor name.1) (λ descriptor d.
    then_finds (λ (x : ℕ × List Text). x.0 ≤ 65535) OfForm _ _ (after_le (codes "flags") 65535 descriptor.1) (λ flags f.
    then_finds (λ rest. Unit {0}) OfForm _ _ (anything (keyword_at (codes "none") flags.1)) (λ rest _.
    let head : MemberHead = record { name = name.0; descriptor = descriptor.0; flags = flags.0 } in
    then_finds (λ line. line ≡ Line.Bare head) OfForm _ _ (one_line rest (Line.Bare head)) (λ line is.
    if_finds OfForm (takes_few head) (Some line) (λ few.
    subst OfForm (sym is) (rw (n, d, le-leb flags.0 65535 f, few) refl)))))))

any_field_form : (words : List Text) → Finds OfForm (any_field_at words)
unfolding any_field_at
any_field_form words =
    or_finds OfForm (field_at 0 words) (static_field_at words) (field_form 0 words (omega arith))
    (then_finds (λ rest. Unit {0}) OfForm (keyword_at (codes "static") words) (field_at 8) (anything (keyword_at (codes "static") words)) (λ rest _. field_form 8 rest (omega arith)))

any_method_form : (words : List Text) → Finds OfForm (any_method_at words)
unfolding any_method_at
any_method_form words =
    or_finds OfForm (option_or (method_at 0 words) (static_method_at words)) (bare_at words)
    (or_finds OfForm (method_at 0 words) (static_method_at words) (method_form 0 words (omega arith))
    (then_finds (λ rest. Unit {0}) OfForm (keyword_at (codes "static") words) (method_at 8) (anything (keyword_at (codes "static") words)) (λ rest _. method_form 8 rest (omega arith))))
    (bare_form words)

-- ---- instructions

abbrev OfOperation : Operation → Type 0
OfOperation o = is_operation o ≡ true

byte_form : (words : List Text) → Finds OfOperation (byte_at words)
unfolding byte_at
byte_form words = then_finds (λ (x : ℤ × List Text). is_integer 127 x.0 ≡ true) OfOperation _ _ (integers_are 127 words) (λ n h. ended_finds OfOperation n.1 (Operation.Bipush n.0) h)

short_form : (words : List Text) → Finds OfOperation (short_at words)
unfolding short_at
short_form words = then_finds (λ (x : ℤ × List Text). is_integer 32767 x.0 ≡ true) OfOperation _ _ (integers_are 32767 words) (λ n h. ended_finds OfOperation n.1 (Operation.Sipush n.0) h)

local_form : (op : ℕ) (words : List Text) → has_form op is_local_form ≡ true → Finds OfOperation (local_at op words)
unfolding local_at
local_form op words f = then_finds (λ (x : ℕ × List Text). x.0 ≤ 65535) OfOperation _ _ (naturals_le 65535 words) (λ n h. ended_finds OfOperation n.1 (Operation.Local op n.0) (rw (f, le-leb n.0 65535 h) refl))

increment_form : (words : List Text) → Finds OfOperation (increment_at words)
unfolding increment_at
increment_form words =
    then_finds (λ (x : ℕ × List Text). x.0 ≤ 65535) OfOperation _ _ (naturals_le 65535 words) (λ index i.
    then_finds (λ (x : ℤ × List Text). is_integer 32767 x.0 ≡ true) OfOperation _ _ (integers_are 32767 index.1) (λ by b.
    ended_finds OfOperation by.1 (Operation.Iinc index.0 by.0) (rw (le-leb index.0 65535 i, b) refl)))

array_code_form : (words : List Text) → Finds OfOperation (array_code_at words)
unfolding array_code_at
array_code_form words =
    then_finds (λ (x : ℕ × List Text). x.0 ≤ 11) OfOperation _ _ (naturals_le 11 words) (λ n h.
    if_finds OfOperation (nat_le 4 n.0) (ended n.1 (Operation.NewArray n.0)) (λ low.
    ended_finds OfOperation n.1 (Operation.NewArray n.0) (and_from (nat_le 4 n.0) (nat_lt n.0 12) low (lt-ltb n.0 12 (omega arith)))))

float_lt : (w : Text) → Finds (λ bits. nat_lt bits (2 ^ 32) ≡ true) (float_of w)
unfolding float_of
float_lt w = then_finds (λ rest. Unit {0}) (λ bits. nat_lt bits (2 ^ 32) ≡ true) (behind (codes "float:") w) (hexadecimal 8 (2 ^ 32 - 1)) (anything (behind (codes "float:") w))
    (λ rest _. finds_lt (hexadecimal 8 (2 ^ 32 - 1) rest) (hexadecimal_le 8 (2 ^ 32 - 1) rest))
  where
    finds_lt : (o : Option ℕ) → Finds (λ n. n ≤ 2 ^ 32 - 1) o → Finds (λ bits. nat_lt bits (2 ^ 32) ≡ true) o
    finds_lt None h = tt
    finds_lt (Some n) h = lt-ltb n (2 ^ 32) (omega arith)

double_lt : (w : Text) → Finds (λ bits. nat_lt bits (2 ^ 64) ≡ true) (double_of w)
unfolding double_of
double_lt w = then_finds (λ rest. Unit {0}) (λ bits. nat_lt bits (2 ^ 64) ≡ true) (behind (codes "double:") w) (hexadecimal 16 (2 ^ 64 - 1)) (anything (behind (codes "double:") w))
    (λ rest _. finds_lt (hexadecimal 16 (2 ^ 64 - 1) rest) (hexadecimal_le 16 (2 ^ 64 - 1) rest))
  where
    finds_lt : (o : Option ℕ) → Finds (λ n. n ≤ 2 ^ 64 - 1) o → Finds (λ bits. nat_lt bits (2 ^ 64) ≡ true) o
    finds_lt None h = tt
    finds_lt (Some n) h = lt-ltb n (2 ^ 64) (omega arith)

text_is : (w : Text) → Finds (λ text. is_text text ≡ true) (quoted w)
unfolding quoted
text_is w =
    then_finds (λ text. Unit {0}) (λ text. is_text text ≡ true) (inside_quotes w >>= unescaped) (λ text. if is_text text then Some text else None) (anything (inside_quotes w >>= unescaped))
    (λ text _. if_finds (λ text. is_text text ≡ true) (is_text text) (Some text) (λ is. is))

abbrev OfConstant : Constant → Type 0
OfConstant c = is_constant c ≡ true

-- what is found, where only this is left
class_left : (w : Text) → integer (2 ^ 31 - 1) w ≡ None → float_of w ≡ None → Finds OfConstant (class_constant w)
unfolding class_constant
class_left w int float = if_finds OfConstant (fits WordKind.TypeName w) (Some (Constant.Class w)) (λ is. rw (is, int, float) refl)

int_or_float : (w : Text) (int : Option ℤ) (float : Option ℕ) → integer (2 ^ 31 - 1) w ≡ int → float_of w ≡ float → Finds (λ z. is_integer (2 ^ 31 - 1) z ≡ true) int → Finds (λ bits. nat_lt bits (2 ^ 32) ≡ true) float
    → Finds OfConstant (option_or (option_or (option_map Constant.Int int) (option_map Constant.Float float)) (class_constant w))
int_or_float w (Some z) float ei ef hi hf = hi
int_or_float w None (Some bits) ei ef hi hf = hf
int_or_float w None None ei ef hi hf = class_left w ei ef

constant_is : (w : Text) → Finds OfConstant (constant_of w)
unfolding constant_of
constant_is w =
    or_finds OfConstant (option_map Constant.Text (quoted w)) _ (maps_finds (λ text. is_text text ≡ true) OfConstant (quoted w) Constant.Text (text_is w) (λ text is. is))
    (int_or_float w (integer (2 ^ 31 - 1) w) (float_of w) refl refl (integer_is (2 ^ 31 - 1) w) (float_lt w))

constant_form : (op : ℕ) (words : List Text) → (op == 18 || op == 19) ≡ true → Finds OfOperation (constant_at op words)
unfolding constant_at
constant_form op [] f = tt
constant_form op (w ∷ words) f =
    then_finds OfConstant OfOperation (constant_of w) (λ c. ended words (Operation.Constant op c)) (constant_is w) (λ c h. ended_finds OfOperation words (Operation.Constant op c) (rw (f, h) refl))

wide_form : (words : List Text) → Finds OfOperation (wide_constant_at words)
unfolding wide_constant_at
wide_form [] = tt
wide_form (w ∷ words) =
    then_finds OfOperation OfOperation (option_or (option_map Operation.Long (integer (2 ^ 63 - 1) w)) (option_map Operation.Double (double_of w))) (ended words)
    (or_finds OfOperation (option_map Operation.Long (integer (2 ^ 63 - 1) w)) (option_map Operation.Double (double_of w))
    (maps_finds (λ z. is_integer (2 ^ 63 - 1) z ≡ true) OfOperation (integer (2 ^ 63 - 1) w) Operation.Long (integer_is (2 ^ 63 - 1) w) (λ z is. is))
    (maps_finds (λ bits. nat_lt bits (2 ^ 64) ≡ true) OfOperation (double_of w) Operation.Double (double_lt w) (λ bits is. is)))
    (λ o h. ended_finds OfOperation words o h)

member_form : (kind : WordKind) (op : ℕ) (words : List Text) → ((d : Text) → fits kind d ≡ true → is_member_type op d ≡ true) → Finds OfOperation (member_at kind op words)
unfolding member_at
member_form kind op words type =
    then_finds (λ (x : Text × List Text). fits WordKind.TypeName x.0 ≡ true) OfOperation _ _ (words_fit WordKind.TypeName words) (λ class c.
    then_finds (λ (x : Text × List Text). fits WordKind.MemberName x.0 ≡ true) OfOperation _ _ (words_fit WordKind.MemberName class.1) (λ name n.
    then_finds (λ (x : Text × List Text). fits kind x.0 ≡ true) OfOperation _ _ (words_fit kind name.1) (λ descriptor d.
    ended_finds OfOperation descriptor.1 (Operation.Member op class.0 name.0 descriptor.0) (rw (c, n, type descriptor.0 d) refl))))

left_out : (x y : Bool) → x ≡ false → (x || y) ≡ true → y ≡ true
left_out true y e h = absurd (false≢true (sym e))
left_out false y e h = h

-- new, anewarray, checkcast and instanceof
abbrev takes_class : ℕ → Bool
takes_class op = op == 187 || (op == 189 || within 192 194 op)

class_op_is : (op : ℕ) (class : Text) → takes_class op ≡ true → (op == 189 && nat_le 255 (dimensions class)) ≡ false → is_class_op op class ≡ true
class_op_is op class takes few =
    elim (cases_Bool (op == 187)) [
      | inl new ↦ rw new refl
      | inr n ↦ elim (cases_Bool (op == 189)) [
        | inl array ↦
            let le : nat_le 255 (dimensions class) ≡ false = ap (λ (t : Bool). t && nat_le 255 (dimensions class)) (sym array) ∙ few in
            rw (n, array, lt-ltb (dimensions class) 255 (leb-false 255 (dimensions class) le)) refl
        | inr a ↦
            let rest : within 192 194 op ≡ true = left_out (op == 189) (within 192 194 op) a (left_out (op == 187) (op == 189 || within 192 194 op) n takes) in
            rw (n, a, rest) refl
      ]
    ]

type_form : (op : ℕ) (words : List Text) → takes_class op ≡ true → Finds OfOperation (type_at op words)
unfolding type_at
type_form op words takes =
    then_finds (λ (x : Text × List Text). fits WordKind.TypeName x.0 ≡ true) OfOperation _ _ (words_fit WordKind.TypeName words) (λ class c.
    else_finds OfOperation (op == 189 && nat_le 255 (dimensions class.0)) (ended class.1 (Operation.Class op class.0)) (λ few.
    ended_finds OfOperation class.1 (Operation.Class op class.0) (rw (c, class_op_is op class.0 takes few) refl)))

dimensions_form : (words : List Text) → Finds OfOperation (dimensions_at words)
unfolding dimensions_at
dimensions_form words =
    then_finds (λ (x : Text × List Text). fits WordKind.TypeName x.0 ≡ true) OfOperation _ _ (words_fit WordKind.TypeName words) (λ class c.
    then_finds (λ (x : ℕ × List Text). x.0 ≤ 255) OfOperation _ _ (naturals_le 255 class.1) (λ dims d.
    if_finds OfOperation (nat_le 1 dims.0 && nat_le dims.0 (dimensions class.0)) (ended dims.1 (Operation.Multi class.0 dims.0)) (λ h.
    ended_finds OfOperation dims.1 (Operation.Multi class.0 dims.0) (rw (c, le-leb dims.0 255 d, h) refl))))

branch_form : (op : ℕ) (words : List Text) → has_form op is_branch_form ≡ true → Finds OfOperation (branch_at op words)
unfolding branch_at
branch_form op words f =
    then_finds (λ (x : Text × List Text). fits WordKind.Label x.0 ≡ true) OfOperation _ _ (words_fit WordKind.Label words) (λ to t. ended_finds OfOperation to.1 (Operation.Branch op to.0) (rw (f, t) refl))

default_fits : (words : List Text) → Finds (λ label. fits WordKind.Label label ≡ true) (default_at words)
unfolding default_at
default_fits words =
    then_finds (λ rest. Unit {0}) (λ label. fits WordKind.Label label ≡ true) _ _ (anything (keyword_at (codes "default") words)) (λ rest _.
    then_finds (λ (x : Text × List Text). fits WordKind.Label x.0 ≡ true) (λ label. fits WordKind.Label label ≡ true) _ _ (words_fit WordKind.Label rest) (λ label l.
    ended_finds (λ label. fits WordKind.Label label ≡ true) label.1 label.0 l))

cases_default : (words : List Text) → Finds (λ (x : Text × List Text). fits WordKind.Label x.0 ≡ true) (cases_at words)
unfolding cases_at
cases_default words =
    else_finds (λ (x : Text × List Text). fits WordKind.Label x.0 ≡ true) (nat_lt (length words) 2) _ (λ _.
    maps_finds (λ label. fits WordKind.Label label ≡ true) (λ (x : Text × List Text). fits WordKind.Label x.0 ≡ true) (default_at (drop (length words - 2) words)) (λ label. (label, take (length words - 2) words)) (default_fits (drop (length words - 2) words)) (λ label l. l))

labels_are : (words : List Text) → Finds (λ l. (l ≡ words) × (list_all (fits WordKind.Label) l ≡ true)) (words_at WordKind.Label words)
unfolding words_at
labels_are words = if_finds (λ l. (l ≡ words) × (list_all (fits WordKind.Label) l ≡ true)) (list_all (fits WordKind.Label) words) (Some words) (λ is. (refl, is))

table_form : (words : List Text) → Finds OfOperation (table_at words)
unfolding table_at
table_form words =
    then_finds (λ (x : ℤ × List Text). is_integer (2 ^ 31 - 1) x.0 ≡ true) OfOperation _ _ (integers_are (2 ^ 31 - 1) words) (λ low l.
    then_finds (λ (x : Text × List Text). fits WordKind.Label x.0 ≡ true) OfOperation _ _ (cases_default low.1) (λ cases d.
    then_finds (λ ls. (ls ≡ cases.1) × (list_all (fits WordKind.Label) ls ≡ true)) OfOperation _ _ (labels_are cases.1) (λ labels ls.
    if_finds OfOperation (nat_lt 0 (length cases.1) && int_lt (low.0 +ℤ pos (length cases.1)) (pos (2 ^ 31 + 1))) (Some (Operation.TableSwitch low.0 labels cases.0)) (λ few.
    rw (l, ls.1, d, ls.0, few) refl))))

label_fits : (w : Text) → Finds (λ label. fits WordKind.Label label ≡ true) (label_behind w)
unfolding label_behind
label_fits [] = tt
label_fits (b ∷ label) = if_finds (λ label. fits WordKind.Label label ≡ true) (b == 58 && fits WordKind.Label label) (Some label) (λ is. (and_parts (b == 58) (fits WordKind.Label label) is).1)

abbrev OfCase : Case → Type 0
OfCase c = (is_integer (2 ^ 31 - 1) c.key ≡ true) × (fits WordKind.Label c.label ≡ true)

case_form : (w : Text) → Finds OfCase (case_of w)
unfolding case_of
case_form w =
    then_finds (λ z. is_integer (2 ^ 31 - 1) z ≡ true) OfCase _ _ (integer_is (2 ^ 31 - 1) _) (λ key k.
    then_finds (λ label. fits WordKind.Label label ≡ true) OfCase _ _ (label_fits _) (λ label l. (k, l)))

cases_form : (key : ℤ) (words : List Text) → Finds (λ cases. are_cases key cases ≡ true) (cases_above key words)
cases_form key [] = refl
cases_form key (w ∷ words) =
    then_finds OfCase (λ cases. are_cases key cases ≡ true) (case_of w) (λ c. if int_lt key c.key then option_map (λ more. c ∷ more) (cases_above c.key words) else None) (case_form w) (λ c h.
    if_finds (λ cases. are_cases key cases ≡ true) (int_lt key c.key) (option_map (λ more. c ∷ more) (cases_above c.key words)) (λ above.
    maps_finds (λ more. are_cases c.key more ≡ true) (λ cases. are_cases key cases ≡ true) (cases_above c.key words) (λ more. c ∷ more) (cases_form c.key words) (λ more m. rw (above, h.0, h.1, m) refl)))

lookup_form : (words : List Text) → Finds OfOperation (lookup_at words)
unfolding lookup_at
lookup_form words =
    then_finds (λ (x : Text × List Text). fits WordKind.Label x.0 ≡ true) OfOperation _ _ (cases_default words) (λ parts d.
    then_finds (λ cases. are_cases (negsuc (2 ^ 31)) cases ≡ true) OfOperation _ _ (cases_form (negsuc (2 ^ 31)) parts.1) (λ cases c. rw (c, d) refl))

-- ---- by the form

abbrev is_form_pool : Form → Bool
is_form_pool Form.Pool = true
is_form_pool _ = false

abbrev is_form_narrow : Form → Bool
is_form_narrow Form.NarrowPool = true
is_form_narrow _ = false

abbrev is_form_interface : Form → Bool
is_form_interface Form.Interface = true
is_form_interface _ = false

-- which opcodes have these forms
abbrev has_known_form : ℕ → Bool
has_known_form op =
    (not (of_form is_form_pool (form_of op)) || (op == 19 || (op == 20 || (within 178 182 op || (within 182 185 op || takes_class op)))))
    && ((not (of_form is_form_narrow (form_of op)) || op == 18) && (not (of_form is_form_interface (form_of op)) || op == 185))

all_known : each_below 202 has_known_form ≡ true
unfolding opcode
all_known = refl

known : (op : ℕ) → op < 202 → has_known_form op ≡ true
known op lt = at_each has_known_form 202 op lt all_known

pool_known : (op : ℕ) → op < 202 → form_of op ≡ Some Form.Pool → (op == 19 || (op == 20 || (within 178 182 op || (within 182 185 op || takes_class op)))) ≡ true
pool_known op lt is =
    ap (λ (o : Option Form). not (of_form is_form_pool o) || (op == 19 || (op == 20 || (within 178 182 op || (within 182 185 op || takes_class op))))) (sym is)
    ∙ (and_parts (not (of_form is_form_pool (form_of op)) || (op == 19 || (op == 20 || (within 178 182 op || (within 182 185 op || takes_class op))))) _ (known op lt)).0

narrow_known : (op : ℕ) → op < 202 → form_of op ≡ Some Form.NarrowPool → op == 18 ≡ true
narrow_known op lt is =
    ap (λ (o : Option Form). not (of_form is_form_narrow o) || op == 18) (sym is)
    ∙ (and_parts (not (of_form is_form_narrow (form_of op)) || op == 18) _ (and_parts _ _ (known op lt)).1).0

interface_known : (op : ℕ) → op < 202 → form_of op ≡ Some Form.Interface → op == 185 ≡ true
interface_known op lt is =
    ap (λ (o : Option Form). not (of_form is_form_interface o) || op == 185) (sym is)
    ∙ (and_parts (not (of_form is_form_narrow (form_of op)) || op == 18) _ (and_parts _ _ (known op lt)).1).1

method_type : (op : ℕ) (d : Text) → within 182 186 op ≡ true → fits WordKind.MethodDescriptor d ≡ true → is_member_type op d ≡ true
method_type op d range is = rw (range, is) (either (within 178 182 op && fits WordKind.FieldDescriptor d))
  where
    either : (t : Bool) → (t || true) ≡ true
    either true = refl
    either false = refl

wider : (op : ℕ) → within 182 185 op ≡ true → within 182 186 op ≡ true
wider op h =
    let parts = and_parts (nat_le 182 op) (nat_lt op 185) h in
    let high = ltb-true op 185 parts.1 in
    and_from (nat_le 182 op) (nat_lt op 186) parts.0 (lt-ltb op 186 (omega arith))

pool_form_is : (op : ℕ) (words : List Text) → op < 202 → form_of op ≡ Some Form.Pool → Finds OfOperation (pool_at op words)
unfolding pool_at
pool_form_is op words lt is =
    let some = pool_known op lt is in
    elim (cases_Bool (op == 19)) [
      | inl a ↦ rw a (constant_form op words (rw a (either (op == 18))))
      | inr a ↦ rw a (elim (cases_Bool (op == 20)) [
        | inl b ↦ rw b (wide_form words)
        | inr b ↦ rw b (elim (cases_Bool (within 178 182 op)) [
          | inl c ↦ rw c (member_form WordKind.FieldDescriptor op words (λ d fit. rw (c, fit) refl))
          | inr c ↦ rw c (elim (cases_Bool (within 182 185 op)) [
            | inl e ↦ rw e (member_form WordKind.MethodDescriptor op words (λ d fit. method_type op d (wider op e) fit))
            | inr e ↦ rw e (type_form op words (rest a b c e some))
          ])
        ])
      ])
    ]
  where
    either : (t : Bool) → (t || true) ≡ true
    either true = refl
    either false = refl

    rest : op == 19 ≡ false → op == 20 ≡ false → within 178 182 op ≡ false → within 182 185 op ≡ false → (op == 19 || (op == 20 || (within 178 182 op || (within 182 185 op || takes_class op)))) ≡ true → takes_class op ≡ true
    rest a b c e some = left_out (within 182 185 op) (takes_class op) e (left_out (within 178 182 op) _ c (left_out (op == 20) _ b (left_out (op == 19) _ a some)))

by_form_is : (op : ℕ) (form : Form) (words : List Text) → op < 202 → form_of op ≡ Some form → Finds OfOperation (by_form op form words)
by_form_is op forms.Plain words lt is = ended_finds OfOperation words (Operation.Plain op) (rw (lt-ltb op 202 lt, is) refl)
by_form_is op forms.Byte words lt is = byte_form words
by_form_is op forms.Short words lt is = short_form words
by_form_is op forms.Local words lt is = local_form op words (rw (lt-ltb op 202 lt, is) refl)
by_form_is op forms.Increment words lt is = increment_form words
by_form_is op forms.NarrowPool words lt is = constant_form op words (rw (narrow_known op lt is) refl)
by_form_is op forms.Pool words lt is = pool_form_is op words lt is
by_form_is op forms.Interface words lt is = member_form WordKind.MethodDescriptor op words (λ d fit. method_type op d (subst (λ (k : ℕ). within 182 186 k ≡ true) (sym (eqb-true op 185 (interface_known op lt is))) refl) fit)
by_form_is op forms.ArrayCode words lt is = array_code_form words
by_form_is op forms.Dimensions words lt is = dimensions_form words
by_form_is op forms.Branch words lt is = branch_form op words (rw (lt-ltb op 202 lt, is) refl)
by_form_is op forms.WideBranch words lt is = branch_form op words (rw (lt-ltb op 202 lt, is) refl)
by_form_is op forms.TableSwitch words lt is = table_form words
by_form_is op forms.LookupSwitch words lt is = lookup_form words
by_form_is op forms.Wide words lt is = tt

op_lt : (n : ℕ) (w : Text) → Finds (λ op. op < n) (op_below n w)
op_lt zero w = tt
op_lt (suc n) w =
    or_finds (λ op. op < suc n) (op_below n w) (if bytes_eq (mnemonic_of n) w then Some n else None) (weaker (op_below n w) (op_lt n w))
    (if_finds (λ op. op < suc n) (bytes_eq (mnemonic_of n) w) (Some n) (λ _. omega arith))
  where
    weaker : (o : Option ℕ) → Finds (λ op. op < n) o → Finds (λ op. op < suc n) o
    weaker None h = tt
    weaker (Some op) h = omega arith

named_lt : (w : Text) → Finds (λ op. op < 202) (op_named w)
unfolding op_named
named_lt w = op_lt 202 w

itself : {A : Type 0} (o : Option A) → Finds (λ x. o ≡ Some x) o
itself None = tt
itself (Some x) = refl

operation_form : (words : List Text) → Finds OfOperation (operation_at words)
unfolding operation_at
operation_form [] = tt
operation_form (w ∷ words) =
    then_finds (λ op. op < 202) OfOperation (op_named w) (λ op. form_of op >>= (λ form. by_form op form words)) (named_lt w) (λ op lt.
    then_finds (λ form. form_of op ≡ Some form) OfOperation (form_of op) (λ form. by_form op form words) (itself (form_of op)) (λ form is. by_form_is op form words lt is))

-- ---- lines

shown_front : (n : ℕ) (w : Text) → is_passed_over (w ∷ []) ≡ false → is_passed_over (take n w ∷ []) ≡ false
shown_front zero w h = refl
shown_front (suc n) [] h = refl
shown_front (suc n) (b ∷ w) h = h

abbrev IsShown : Text → Type 0
IsShown label = (fits WordKind.Label label ≡ true) × (is_passed_over (label ∷ []) ≡ false)

label_shown : (w : Text) → is_passed_over (w ∷ []) ≡ false → Finds IsShown (label_before w)
unfolding label_before
label_shown w h =
    let label : Text = take (length w - 1) w in
    if_finds IsShown (nat_lt 0 (length w) && (slice_index w (length w - 1) == 58 && fits WordKind.Label label)) (Some label) (λ is.
    let parts = and_parts (nat_lt 0 (length w)) (slice_index w (length w - 1) == 58 && fits WordKind.Label label) is in
    let last = and_parts (slice_index w (length w - 1) == 58) (fits WordKind.Label label) parts.1 in
    (last.1, shown_front (length w - 1) w h))

by_label : (all words : List Text) (o : Option Text) → Finds IsShown o → Finds OfForm (labelled_or all words o)
by_label all words None h = maps_finds OfOperation OfForm (operation_at all) (λ o. Line.Step None o) (operation_form all) (λ o is. is)
by_label all words (Some label) h = maps_finds OfOperation OfForm (operation_at words) (λ o. Line.Step (Some label) o) (operation_form words) (λ o is. rw (h.0, h.1, is) refl)

step_form : (w : Text) (words : List Text) → is_passed_over (w ∷ []) ≡ false → Finds OfForm (step_at (w ∷ words))
unfolding step_at
step_form w words h = by_label (w ∷ words) words (label_before w) (label_shown w h)

caught_form : (words : List Text) → Finds (λ class. is_caught class ≡ true) (caught_at words)
unfolding caught_at
caught_form [] = tt
caught_form (w ∷ v ∷ words) = tt
caught_form (w ∷ []) =
    elim (cases_Bool (bytes_eq w (codes "any"))) [
      | inl any ↦ rw any refl
      | inr other ↦ rw other (if_finds (λ class. is_caught class ≡ true) (fits WordKind.TypeName w) (Some (Some w)) (λ is. rw (is, other) refl))
    ]

catch_form : (words : List Text) → Finds OfForm (catch_at words)
unfolding catch_at
catch_form words =
    then_finds (λ (x : Text × List Text). fits WordKind.Label x.0 ≡ true) OfForm _ _ (words_fit WordKind.Label words) (λ from f.
    then_finds (λ (x : Text × List Text). fits WordKind.Label x.0 ≡ true) OfForm _ _ (words_fit WordKind.Label from.1) (λ to t.
    then_finds (λ (x : Text × List Text). fits WordKind.Label x.0 ≡ true) OfForm _ _ (words_fit WordKind.Label to.1) (λ handler h.
    then_finds (λ class. is_caught class ≡ true) OfForm _ _ (caught_form handler.1) (λ class c. rw (f, t, h, c) refl))))

-- one of two
choose : {A : Type 0} (Q : A → Type 0) (t : Bool) (a b : Option A) → Finds Q a → Finds Q b → Finds Q (if t then a else b)
choose Q true a b ha hb = ha
choose Q false a b ha hb = hb

line_form : (w : Text) (words : List Text) → is_passed_over (w ∷ []) ≡ false → Finds OfForm (line_at (w ∷ words))
unfolding line_at
line_form w words h =
    choose OfForm (bytes_eq w (codes "class")) (class_at words) _ (class_form words)
    (choose OfForm (bytes_eq w (codes "field")) (any_field_at words) _ (any_field_form words)
    (choose OfForm (bytes_eq w (codes "method")) (any_method_at words) _ (any_method_form words)
    (choose OfForm (bytes_eq w (codes "catch")) (catch_at words) _ (catch_form words)
    (choose OfForm (bytes_eq w (codes "end")) (ended words Line.End) (step_at (w ∷ words)) (ended_finds OfForm words Line.End refl) (step_form w words h)))))

-- a line, or nothing
abbrev OfFormOrNone : Option Line → Type 0
OfFormOrNone None = Unit {0}
OfFormOrNone (Some line) = is_line line ≡ true

words_form : (words : List Text) → Finds OfFormOrNone (if is_passed_over words then Some None else option_map Some (line_at words))
words_form [] = tt
words_form (w ∷ words) =
    elim (cases_Bool (is_passed_over (w ∷ words))) [
      | inl passed ↦ rw passed tt
      | inr shown ↦ rw shown (maps_finds OfForm OfFormOrNone (line_at (w ∷ words)) Some (line_form w words (sym (first w words) ∙ shown)) (λ line is. is))
    ]
  where
    first : (w : Text) (words : List Text) → is_passed_over (w ∷ words) ≡ is_passed_over (w ∷ [])
    first [] words = refl
    first (b ∷ w) words = refl

read_form : (text : Text) → Finds OfFormOrNone (read_as text)
unfolding read_as
read_form text = words_form (fields text)

-- what a line is read as is of the form
pub found_form : (text : Text) (line : Line) → read_as text ≡ Some (Some line) → is_line line ≡ true
found_form text line h = subst (Finds OfFormOrNone) h (read_form text)

-- what is answered is of the form
pub given_form : (result : Result (Option Line) LineFault) (text : Text) → Gives result (read_as text) → IfOk result (λ found. IfSome found (λ line. is_line line ≡ true))
given_form (Ok None) text h = tt
given_form (Ok (Some line)) text h = found_form text line h
given_form (Err fault) text h = tt
