-- A line that is printed is read again.
use Rattle.std.proofs.Common.{◌≡◌, ◌⊎◌, ℕ, ◌-◌, ◌^◌, ◌<◌, Bool, true, false, not, ◌&&◌, List, [], ◌∷◌, ◌++◌, length, Option, Some, None, refl, sym, ap, ◌∙◌, arith, inl, inr, append_assoc, length-append}
use Rattle.std.specs.Prelude.{◌==◌, ◌||◌, nat_lt, nat_le, int_lt, map, codes, ℤ, negsuc, is_none}
use Rattle.std.specs.List.{list_all}
use Rattle.std.specs.Str.{bytes_eq}
use Rattle.std.specs.Fmt.{decimal, signed_decimal}
use Rattle.std.proofs.lemmas.Bool.{and_parts, and_from, leb-true, ltb-true, lt-ltb, cases_Bool, not-true, false≢true}
use Rattle.std.proofs.lemmas.List.{append-nil}
use Rattle.std.proofs.lemmas.List.Folds.{list_all-append}
use Rattle.std.proofs.lemmas.Slice.Eq.{bytes_eq-Decides}
use Rattle.std.proofs.Math.Seq.{take-append_seam, get_or-append_seam}
use Rattle.opcode_table.specs.Table.{mnemonic_of}
use Rattle.class_file.specs.Text.{within}
use Rattle.class_lines.specs.declared.line.Line.{Line}
use Rattle.class_lines.specs.declared.line.MemberHead.{MemberHead}
use Rattle.class_lines.specs.declared.line.Operation.{Operation}
use Rattle.class_lines.specs.declared.line.Constant.{Constant}
use Rattle.class_lines.specs.declared.line.Case.{Case}
use Rattle.class_lines.specs.declared.words.WordKind.{WordKind}
use Rattle.class_lines.specs.Fields.{is_inside, fields}
use Rattle.class_lines.specs.Words.{Text, is_plain, is_label_byte, fits}
use Rattle.class_lines.specs.Heads.{class_at, any_field_at, any_method_at, takes_few}
use Rattle.class_lines.specs.Reading.{label_before, step_at, caught_at, catch_at, line_at, is_passed_over, read_as}
use Rattle.class_lines.specs.Printing.{spaced, all_spaced, natural_text, hex_digits, constant_text, case_text, default_text, op_of, operands_text, operation_text, head_text, interfaces_text, caught_text, line_text}
use Rattle.class_lines.specs.Lines.{is_integer, is_constant, is_member_type, are_cases, is_operation, is_head, is_label_or_none, is_caught, is_line}
use Rattle.class_lines.proofs.Spaced.{ends, fields_word, fields_blank, fields_spaced, fields_all, all_plain, spaced_ends}
use Rattle.class_lines.proofs.NumbersRead.{plain_decimal, plain_signed}
use Rattle.class_lines.proofs.TextRead.{inside_hex, fields_quote}
use Rattle.class_lines.proofs.HeadsRead.{fits_plain, fit_plain, word_read, fields_natural, fields_natural_end, fields_all_end, fields_head, head_words, interface_words, field_read, method_read, bare_read, class_read}
use Rattle.class_lines.proofs.OperationsRead.{within_of, operand_words, no_keyword, operation_read}

-- ---- plain words

pub inside_of : (w : Text) → is_plain w ≡ true → list_all is_inside w ≡ true
inside_of [] h = absurd (false≢true h)
inside_of (b ∷ w) h = (and_parts (not (b == 34)) (list_all is_inside (b ∷ w)) h).1

plain_append : (w v : Text) → is_plain w ≡ true → list_all is_inside v ≡ true → is_plain (w ++ v) ≡ true
plain_append [] v h i = absurd (false≢true h)
plain_append (b ∷ w) v h i =
    let parts = and_parts (not (b == 34)) (list_all is_inside (b ∷ w)) h in
    and_from (not (b == 34)) (list_all is_inside (b ∷ w ++ v)) parts.0
    (list_all-append is_inside (b ∷ w) v ∙ and_from (list_all is_inside (b ∷ w)) (list_all is_inside v) parts.1 i)

plain_case : (c : Case) → is_integer (2 ^ 31 - 1) c.key ≡ true → fits WordKind.Label c.label ≡ true → is_plain (case_text c) ≡ true
plain_case c key label =
    plain_append (signed_decimal c.key) (58 ∷ c.label) (plain_signed c.key (2 ^ 31 - 1) (omega arith) (within_of (2 ^ 31 - 1) c.key key)) (inside_of c.label (fits_plain WordKind.Label c.label label))

plain_cases : (key : ℤ) (cases : List Case) → are_cases key cases ≡ true → all_plain (map case_text cases) ≡ true
plain_cases key [] h = refl
plain_cases key (c ∷ cases) h =
    let above = and_parts (int_lt key c.key) (is_integer (2 ^ 31 - 1) c.key && (fits WordKind.Label c.label && are_cases c.key cases)) h in
    let int = and_parts (is_integer (2 ^ 31 - 1) c.key) (fits WordKind.Label c.label && are_cases c.key cases) above.1 in
    let label = and_parts (fits WordKind.Label c.label) (are_cases c.key cases) int.1 in
    and_from (is_plain (case_text c)) (all_plain (map case_text cases)) (plain_case c int.0 label.0) (plain_cases c.key cases label.1)

-- ---- the fields of operands

fields_one : (w : Text) → is_plain w ≡ true → fields (spaced w) ≡ w ∷ []
fields_one w plain = ap fields (sym (append-nil (spaced w))) ∙ fields_spaced w [] plain refl

fields_signed : (most : ℕ) (z : ℤ) → most < 2 ^ 63 → is_integer most z ≡ true → fields (spaced (signed_decimal z)) ≡ signed_decimal z ∷ []
fields_signed most z small h = fields_one (signed_decimal z) (plain_signed z most small (within_of most z h))

fields_constant : (c : Constant) → is_constant c ≡ true → fields (spaced (constant_text c)) ≡ constant_text c ∷ []
fields_constant (Constant.Int n) h = fields_signed (2 ^ 31 - 1) n (omega arith) h
fields_constant (Constant.Float bits) h = fields_one (codes "float:" ++ hex_digits 8 bits) (plain_append (codes "float:") (hex_digits 8 bits) refl (inside_hex 8 bits))
fields_constant (Constant.Text text) h = fields_quote text
fields_constant (Constant.Class class) h = fields_one class (fits_plain WordKind.TypeName class (and_parts (fits WordKind.TypeName class) _ h).0)

fields_default : (words : List Text) (default : Text) → all_plain words ≡ true → fits WordKind.Label default ≡ true → fields (all_spaced words ++ default_text default) ≡ words ++ codes "default" ∷ default ∷ []
fields_default words default plain label =
    let last : List Text = codes "default" ∷ default ∷ [] in
    let is : all_plain last ≡ true = rw (fits_plain WordKind.Label default label) refl in
    fields_all words (default_text default) plain refl ∙ ap (λ (l : List Text). words ++ l) (fields_all_end last is)

pub either_of : (a b : Bool) → (a || b) ≡ true → (a ≡ true) ⊎ (b ≡ true)
either_of true b h = inl refl
either_of false b h = inr h

plain_type : (op : ℕ) (descriptor : Text) → is_member_type op descriptor ≡ true → is_plain descriptor ≡ true
plain_type op descriptor h =
    elim (either_of (within 178 182 op && fits WordKind.FieldDescriptor descriptor) (within 182 186 op && fits WordKind.MethodDescriptor descriptor) h) [
      | inl field ↦ fits_plain WordKind.FieldDescriptor descriptor (and_parts (within 178 182 op) (fits WordKind.FieldDescriptor descriptor) field).1
      | inr method ↦ fits_plain WordKind.MethodDescriptor descriptor (and_parts (within 182 186 op) (fits WordKind.MethodDescriptor descriptor) method).1
    ]

pub fields_operands : (o : Operation) → is_operation o ≡ true → fields (operands_text o) ≡ operand_words o
fields_operands (Operation.Plain op) h = refl
fields_operands (Operation.Bipush value) h = fields_signed 127 value (omega arith) h
fields_operands (Operation.Sipush value) h = fields_signed 32767 value (omega arith) h
fields_operands (Operation.Local op index) h = let le = leb-true index 65535 (and_parts _ (nat_le index 65535) h).1 in fields_one (decimal index) (plain_decimal index (omega arith))
fields_operands (Operation.Iinc index by) h =
    let parts = and_parts (nat_le index 65535) (is_integer 32767 by) h in
    let le = leb-true index 65535 parts.0 in
    let words : List Text = decimal index ∷ signed_decimal by ∷ [] in
    let plain : all_plain words ≡ true = rw (plain_decimal index (omega arith), plain_signed by 32767 (omega arith) (within_of 32767 by parts.1)) refl in
    fields_all_end words plain
fields_operands (Operation.Constant op constant) h = fields_constant constant (and_parts _ (is_constant constant) h).1
fields_operands (Operation.Long n) h = fields_signed (2 ^ 63 - 1) n (omega arith) h
fields_operands (Operation.Double bits) h = fields_one (codes "double:" ++ hex_digits 16 bits) (plain_append (codes "double:") (hex_digits 16 bits) refl (inside_hex 16 bits))
fields_operands (Operation.Member op class name descriptor) h =
    let c = and_parts (fits WordKind.TypeName class) _ h in
    let n = and_parts (fits WordKind.MemberName name) _ c.1 in
    fields_all_end (class ∷ name ∷ descriptor ∷ []) (rw (fits_plain WordKind.TypeName class c.0, fits_plain WordKind.MemberName name n.0, plain_type op descriptor n.1) refl)
fields_operands (Operation.Class op class) h = fields_one class (fits_plain WordKind.TypeName class (and_parts (fits WordKind.TypeName class) _ h).0)
fields_operands (Operation.NewArray code) h = let lt = ltb-true code 12 (and_parts (nat_le 4 code) (nat_lt code 12) h).1 in fields_one (decimal code) (plain_decimal code (omega arith))
fields_operands (Operation.Multi class dims) h =
    let c = and_parts (fits WordKind.TypeName class) _ h in
    let le = leb-true dims 255 (and_parts (nat_le dims 255) _ c.1).0 in
    fields_all_end (class ∷ decimal dims ∷ []) (rw (fits_plain WordKind.TypeName class c.0, plain_decimal dims (omega arith)) refl)
fields_operands (Operation.Branch op to) h = fields_one to (fits_plain WordKind.Label to (and_parts _ (fits WordKind.Label to) h).1)
fields_operands (Operation.TableSwitch low labels default) h =
    let l = and_parts (is_integer (2 ^ 31 - 1) low) _ h in
    let ls = and_parts (list_all (fits WordKind.Label) labels) _ l.1 in
    let d = and_parts (fits WordKind.Label default) _ ls.1 in
    ap fields (append_assoc (spaced (signed_decimal low)) (all_spaced labels) (default_text default))
    ∙ fields_spaced (signed_decimal low) (all_spaced labels ++ default_text default) (plain_signed low (2 ^ 31 - 1) (omega arith) (within_of (2 ^ 31 - 1) low l.0)) (spaced_ends labels (default_text default) refl)
    ∙ ap (λ (w : List Text). signed_decimal low ∷ w) (fields_default labels default (fit_plain WordKind.Label labels ls.0) d.0)
fields_operands (Operation.LookupSwitch cases default) h =
    let parts = and_parts (are_cases (negsuc (2 ^ 31)) cases) (fits WordKind.Label default) h in
    fields_default (map case_text cases) default (plain_cases (negsuc (2 ^ 31)) cases parts.0) parts.1

operands_end : (o : Operation) → ends (operands_text o) ≡ true
operands_end (Operation.LookupSwitch [] default) = refl
operands_end (Operation.LookupSwitch (c ∷ cases) default) = refl
operands_end o = refl

-- ---- instructions

fields_operation : (o : Operation) → is_operation o ≡ true → fields (operation_text o) ≡ mnemonic_of (op_of o) ∷ operand_words o
fields_operation o h =
    let r = operation_read o h in
    fields_spaced (mnemonic_of (op_of o)) (operands_text o) (and_parts (is_plain (mnemonic_of (op_of o))) _ r.mnemonic).0 (operands_end o)
    ∙ ap (λ (l : List Text). mnemonic_of (op_of o) ∷ l) (fields_operands o h)

none_of : {X : Type 0} (o : Option X) → is_none o ≡ true → o ≡ None
none_of None h = refl
none_of (Some x) h = absurd (false≢true h)

-- a line that begins with no keyword is an instruction
other_line : (w : Text) (words : List Text) → no_keyword w ≡ true → line_at (w ∷ words) ≡ step_at (w ∷ words)
unfolding line_at
other_line w words h =
    let a = and_parts (not (bytes_eq w (codes "class"))) _ h in
    let b = and_parts (not (bytes_eq w (codes "field"))) _ a.1 in
    let c = and_parts (not (bytes_eq w (codes "method"))) _ b.1 in
    let d = and_parts (not (bytes_eq w (codes "catch"))) (not (bytes_eq w (codes "end"))) c.1 in
    rw (not-true (bytes_eq w (codes "class")) a.0, not-true (bytes_eq w (codes "field")) b.0, not-true (bytes_eq w (codes "method")) c.0, not-true (bytes_eq w (codes "catch")) d.0, not-true (bytes_eq w (codes "end")) d.1) refl

passed_first : (w : Text) (words : List Text) → is_passed_over (w ∷ words) ≡ is_passed_over (w ∷ [])
passed_first [] words = refl
passed_first (b ∷ w) words = refl

-- the line of the fields of a text
read_fields : (text : Text) (w : Text) (words : List Text) (line : Line) → fields text ≡ w ∷ words → is_passed_over (w ∷ []) ≡ false → line_at (w ∷ words) ≡ Some line → read_as text ≡ Some (Some line)
unfolding read_as
read_fields text w words line is not_passed h = rw (is, passed_first w words, not_passed, h) refl

plain_step : (o : Operation) → is_operation o ≡ true → read_as (32 ∷ operation_text o) ≡ Some (Some (Line.Step None o))
unfolding step_at
plain_step o h =
    let r = operation_read o h in
    let w : Text = mnemonic_of (op_of o) in
    let p = and_parts (is_plain w) _ r.mnemonic in
    let l = and_parts (is_none (label_before w)) _ p.1 in
    let k = and_parts (not (is_passed_over (w ∷ []))) (no_keyword w) l.1 in
    read_fields (32 ∷ operation_text o) w (operand_words o) (Line.Step None o) (fields_blank (operation_text o) ∙ fields_operation o h) (not-true (is_passed_over (w ∷ [])) k.0)
    (other_line w (operand_words o) k.1 ∙ rw (none_of (label_before w) l.0, r.read) refl)

-- ---- labels

colon_label : (label : Text) → list_all is_label_byte (label ++ 58 ∷ []) ≡ false
colon_label [] = refl
colon_label (b ∷ label) = ap (λ (t : Bool). is_label_byte b && t) (colon_label label) ∙ and_false (is_label_byte b)
  where
    and_false : (t : Bool) → (t && false) ≡ false
    and_false true = refl
    and_false false = refl

-- no keyword ends in a colon
no_colon : (label word : Text) → list_all is_label_byte word ≡ true → bytes_eq (label ++ 58 ∷ []) word ≡ false
no_colon label word h =
    elim (cases_Bool (bytes_eq (label ++ 58 ∷ []) word)) [
      | inr isnt ↦ isnt
      | inl same ↦ absurd (false≢true (sym (colon_label label) ∙ ap (list_all is_label_byte) ((bytes_eq-Decides (label ++ 58 ∷ []) word).0 same) ∙ h))
    ]

label_is_no_keyword : (label : Text) → no_keyword (label ++ 58 ∷ []) ≡ true
label_is_no_keyword label =
    rw (no_colon label (codes "class") refl, no_colon label (codes "field") refl, no_colon label (codes "method") refl, no_colon label (codes "catch") refl, no_colon label (codes "end") refl) refl

label_found : (label : Text) → fits WordKind.Label label ≡ true → label_before (label ++ 58 ∷ []) ≡ Some label
unfolding label_before
label_found label h =
    let word : Text = label ++ 58 ∷ [] in
    let n : length word - 1 ≡ length label = omega (arith, length-append label (58 ∷ [])) in
    rw (lt-ltb 0 (length word) (omega (arith, length-append label (58 ∷ []))), n, get_or-append_seam label 58 [] 0, take-append_seam label (58 ∷ []), h) refl

labelled_step : (label : Text) (o : Operation) → fits WordKind.Label label ≡ true → is_passed_over (label ∷ []) ≡ false → is_operation o ≡ true → read_as (32 ∷ spaced (label ++ 58 ∷ []) ++ operation_text o) ≡ Some (Some (Line.Step (Some label) o))
unfolding step_at
labelled_step label o is shown h =
    let r = operation_read o h in
    let word : Text = label ++ 58 ∷ [] in
    let words : List Text = mnemonic_of (op_of o) ∷ operand_words o in
    read_fields (32 ∷ spaced word ++ operation_text o) word words (Line.Step (Some label) o)
    (fields_blank (spaced word ++ operation_text o) ∙ fields_spaced word (operation_text o) (plain_append label (58 ∷ []) (fits_plain WordKind.Label label is) refl) refl ∙ ap (λ (l : List Text). word ∷ l) (fields_operation o h))
    (shown_with label shown (fits_plain WordKind.Label label is))
    (other_line word words (label_is_no_keyword label) ∙ rw (label_found label is, r.read) refl)
  where
    shown_with : (label : Text) → is_passed_over (label ∷ []) ≡ false → is_plain label ≡ true → is_passed_over ((label ++ 58 ∷ []) ∷ []) ≡ false
    shown_with [] shown plain = absurd (false≢true plain)
    shown_with (b ∷ label) shown plain = shown

step_read : (label : Option Text) (o : Operation) → is_label_or_none label ≡ true → is_operation o ≡ true → read_as (line_text (Line.Step label o)) ≡ Some (Some (Line.Step label o))
step_read None o l h = plain_step o h
step_read (Some label) o l h =
    let parts = and_parts (fits WordKind.Label label) (not (is_passed_over (label ∷ []))) l in
    labelled_step label o parts.0 (not-true (is_passed_over (label ∷ [])) parts.1) h

-- ---- catch

caught_read : (class : Option Text) → is_caught class ≡ true → caught_at (caught_text class ∷ []) ≡ Some class
unfolding caught_at
caught_read None h = refl
caught_read (Some class) h =
    let parts = and_parts (fits WordKind.TypeName class) (not (bytes_eq class (codes "any"))) h in
    rw (not-true (bytes_eq class (codes "any")) parts.1, parts.0) refl

caught_plain : (class : Option Text) → is_caught class ≡ true → is_plain (caught_text class) ≡ true
caught_plain None h = refl
caught_plain (Some class) h = fits_plain WordKind.TypeName class (and_parts (fits WordKind.TypeName class) (not (bytes_eq class (codes "any"))) h).0

catch_line : (words : List Text) → line_at (codes "catch" ∷ words) ≡ catch_at words
unfolding line_at
catch_line words = refl

catch_read : (from to handler : Text) (class : Option Text) → is_line (Line.Catch from to handler class) ≡ true → read_as (line_text (Line.Catch from to handler class)) ≡ Some (Some (Line.Catch from to handler class))
unfolding catch_at
catch_read from to handler class h =
    let f = and_parts (fits WordKind.Label from) _ h in
    let t = and_parts (fits WordKind.Label to) _ f.1 in
    let k = and_parts (fits WordKind.Label handler) (is_caught class) t.1 in
    let words : List Text = from ∷ to ∷ handler ∷ caught_text class ∷ [] in
    let plain : all_plain (codes "catch" ∷ words) ≡ true = rw (fits_plain WordKind.Label from f.0, fits_plain WordKind.Label to t.0, fits_plain WordKind.Label handler k.0, caught_plain class k.1) refl in
    read_fields (line_text (Line.Catch from to handler class)) (codes "catch") words (Line.Catch from to handler class)
    (fields_blank (all_spaced (codes "catch" ∷ words)) ∙ fields_all_end (codes "catch" ∷ words) plain) refl
    (catch_line words ∙ rw (word_read WordKind.Label from (to ∷ handler ∷ caught_text class ∷ []) f.0, word_read WordKind.Label to (handler ∷ caught_text class ∷ []) t.0, word_read WordKind.Label handler (caught_text class ∷ []) k.0, caught_read class k.1) refl)

-- ---- heads

head_ends : (head : MemberHead) (rest : Text) → ends (head_text head ++ rest) ≡ true
head_ends head rest = refl

field_line : (words : List Text) → line_at (codes "field" ∷ words) ≡ any_field_at words
unfolding line_at
field_line words = refl

method_line : (words : List Text) → line_at (codes "method" ∷ words) ≡ any_method_at words
unfolding line_at
method_line words = refl

class_line : (words : List Text) → line_at (codes "class" ∷ words) ≡ class_at words
unfolding line_at
class_line words = refl

field_line_read : (head : MemberHead) → is_head WordKind.FieldDescriptor head ≡ true → read_as (line_text (Line.Field head)) ≡ Some (Some (Line.Field head))
field_line_read head h =
    let is : fields (line_text (Line.Field head)) ≡ codes "field" ∷ head_words head =
    fields_word (codes "field") (head_text head) refl refl
    ∙ ap (λ (l : List Text). codes "field" ∷ l) (ap fields (sym (append-nil (head_text head))) ∙ fields_head WordKind.FieldDescriptor head [] h refl) in
    read_fields (line_text (Line.Field head)) (codes "field") (head_words head) (Line.Field head) is refl (field_line (head_words head) ∙ field_read head h)

method_line_read : (head : MemberHead) (stack locals : ℕ) → is_line (Line.Method head stack locals) ≡ true → read_as (line_text (Line.Method head stack locals)) ≡ Some (Some (Line.Method head stack locals))
method_line_read head stack locals h =
    let parts = and_parts (is_head WordKind.MethodDescriptor head) _ h in
    let few = and_parts (takes_few head) (nat_le stack 65535 && nat_le locals 65535) parts.1 in
    let sizes = and_parts (nat_le stack 65535) (nat_le locals 65535) few.1 in
    let s = leb-true stack 65535 sizes.0 in
    let l = leb-true locals 65535 sizes.1 in
    let rest : Text = natural_text (codes "stack") stack ++ natural_text (codes "locals") locals in
    let words : List Text = head_words head ++ codes "stack" ∷ decimal stack ∷ codes "locals" ∷ decimal locals ∷ [] in
    let is : fields (line_text (Line.Method head stack locals)) ≡ codes "method" ∷ words =
    ap (λ (t : Text). fields (codes "method" ++ t)) (append_assoc (head_text head) (natural_text (codes "stack") stack) (natural_text (codes "locals") locals))
    ∙ fields_word (codes "method") (head_text head ++ rest) refl refl
    ∙ ap (λ (w : List Text). codes "method" ∷ w) (fields_head WordKind.MethodDescriptor head rest parts.0 refl
    ∙ ap (λ (w : List Text). head_words head ++ w) (fields_natural (codes "stack") stack (natural_text (codes "locals") locals) refl (omega arith) refl
    ∙ ap (λ (w : List Text). codes "stack" ∷ decimal stack ∷ w) (fields_natural_end (codes "locals") locals refl (omega arith)))) in
    read_fields (line_text (Line.Method head stack locals)) (codes "method") words (Line.Method head stack locals) is refl (method_line words ∙ method_read head stack locals parts.0 few.0 s l)

bare_line_read : (head : MemberHead) → is_line (Line.Bare head) ≡ true → read_as (line_text (Line.Bare head)) ≡ Some (Some (Line.Bare head))
bare_line_read head h =
    let parts = and_parts (is_head WordKind.MethodDescriptor head) (takes_few head) h in
    let words : List Text = head_words head ++ codes "none" ∷ [] in
    let is : fields (line_text (Line.Bare head)) ≡ codes "method" ∷ words =
    fields_word (codes "method") (head_text head ++ spaced (codes "none")) refl refl
    ∙ ap (λ (w : List Text). codes "method" ∷ w) (fields_head WordKind.MethodDescriptor head (spaced (codes "none")) parts.0 refl
    ∙ ap (λ (w : List Text). head_words head ++ w) (fields_one (codes "none") refl)) in
    read_fields (line_text (Line.Bare head)) (codes "method") words (Line.Bare head) is refl (method_line words ∙ bare_read head parts.0 parts.1)

fields_interfaces : (names : List Text) → list_all (fits WordKind.ClassName) names ≡ true → fields (interfaces_text names) ≡ interface_words names
fields_interfaces [] h = refl
fields_interfaces (name ∷ names) h = fields_all_end (codes "interface" ∷ name ∷ names) (fit_plain WordKind.ClassName (name ∷ names) h)

interfaces_end : (names : List Text) → ends (interfaces_text names) ≡ true
interfaces_end [] = refl
interfaces_end (name ∷ names) = refl

class_line_read : (name super : Text) (version flags : ℕ) (interfaces : List Text) → is_line (Line.Class name super version flags interfaces) ≡ true
    → read_as (line_text (Line.Class name super version flags interfaces)) ≡ Some (Some (Line.Class name super version flags interfaces))
class_line_read name super version flags interfaces h =
    let line : Line = Line.Class name super version flags interfaces in
    let n = and_parts (fits WordKind.ClassName name) _ h in
    let s = and_parts (fits WordKind.ClassName super) _ n.1 in
    let v = and_parts (within 46 50 version) _ s.1 in
    let f = and_parts (nat_le flags 65535) (list_all (fits WordKind.ClassName) interfaces) v.1 in
    let few = leb-true flags 65535 f.0 in
    let low_version = ltb-true version 50 (and_parts (nat_le 46 version) (nat_lt version 50) v.0).1 in
    let names : List Text = name ∷ codes "super" ∷ super ∷ [] in
    let plain : all_plain names ≡ true = rw (fits_plain WordKind.ClassName name n.0, fits_plain WordKind.ClassName super s.0) refl in
    let end : Text = natural_text (codes "flags") flags ++ interfaces_text interfaces in
    let rest : Text = natural_text (codes "version") version ++ end in
    let words : List Text = name ∷ codes "super" ∷ super ∷ codes "version" ∷ decimal version ∷ codes "flags" ∷ decimal flags ∷ interface_words interfaces in
    let is : fields (line_text line) ≡ codes "class" ∷ words =
    ap (λ (t : Text). fields (codes "class" ++ t))
    (append_assoc (all_spaced names ++ natural_text (codes "version") version) (natural_text (codes "flags") flags) (interfaces_text interfaces) ∙ append_assoc (all_spaced names) (natural_text (codes "version") version) end)
    ∙ fields_word (codes "class") (all_spaced names ++ rest) refl refl
    ∙ ap (λ (w : List Text). codes "class" ∷ w) (fields_all names rest plain refl
    ∙ ap (λ (w : List Text). names ++ w) (fields_natural (codes "version") version end refl (omega arith) refl
    ∙ ap (λ (w : List Text). codes "version" ∷ decimal version ∷ w) (fields_natural (codes "flags") flags (interfaces_text interfaces) refl (omega arith) (interfaces_end interfaces)
    ∙ ap (λ (w : List Text). codes "flags" ∷ decimal flags ∷ w) (fields_interfaces interfaces f.1)))) in
    read_fields (line_text line) (codes "class") words line is refl (class_line words ∙ class_read name super version flags interfaces n.0 s.0 v.0 few f.1)

end_read : read_as (codes "end") ≡ Some (Some Line.End)
unfolding read_as line_at
end_read = refl

-- a line of the form that is printed is read again
pub line_read : (line : Line) → is_line line ≡ true → read_as (line_text line) ≡ Some (Some line)
line_read (Line.Class name super version flags interfaces) h = class_line_read name super version flags interfaces h
line_read (Line.Field head) h = field_line_read head h
line_read (Line.Method head stack locals) h = method_line_read head stack locals h
line_read (Line.Bare head) h = bare_line_read head h
line_read (Line.Step label operation) h = let parts = and_parts (is_label_or_none label) (is_operation operation) h in step_read label operation parts.0 parts.1
line_read (Line.Catch from to handler class) h = catch_read from to handler class h
line_read Line.End h = end_read
