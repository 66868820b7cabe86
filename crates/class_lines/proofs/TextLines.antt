-- A line that is printed in UTF-8 is heard again, and is one line.
use Rattle.std.proofs.Common.{◌≡◌, ℕ, ◌+◌, ◌*◌, ◌-◌, ◌^◌, ◌/◌, ◌%◌, Bool, true, false, cond, ◌&&◌, List, [], ◌∷◌, ◌++◌, Option, Some, None, refl, ap, ◌∙◌, arith}
use Rattle.std.specs.Prelude.{◌==◌, ◌||◌, nat_le, nat_lt, int_lt, ℤ, negsuc}
use Rattle.std.specs.List.{list_all, AllByRecursion}
use Rattle.std.proofs.lemmas.Bool.{and_parts, and_from, leb-true, ltb-true, le-leb, lt-ltb, ne_eqb, or_parts, not-true, not_from_false}
use Rattle.std.proofs.lemmas.List.Folds.{list_all-append}
use Rattle.class_lines.specs.declared.line.Line.{Line}
use Rattle.class_lines.specs.declared.line.Operation.{Operation}
use Rattle.class_lines.specs.declared.line.Case.{Case}
use Rattle.class_lines.specs.declared.words.WordKind.{WordKind}
use Rattle.class_lines.specs.Fields.{is_blank, is_inside}
use Rattle.class_lines.specs.Words.{◌>>=◌, Text, fits}
use Rattle.class_lines.specs.Reading.{read_as}
use Rattle.class_lines.specs.Heard.{heard}
use Rattle.class_lines.specs.Lines.{are_characters, has_text_targets, is_text_or_none, has_text_labels, is_integer, are_cases, is_label_or_none, is_operation, is_line}
use Rattle.class_lines.specs.Printing.{line_text}
use Rattle.class_lines.specs.Utf8.{four_bytes, is_pair, surrogate_bits, utf8_of, is_no_feed, is_one_line}
use Rattle.class_lines.proofs.HeadsRead.{fits_plain}
use Rattle.class_lines.proofs.LineForms.{class_word, type_word, name_word, field_word, method_word}
use Rattle.class_lines.proofs.Back.{Spelled, spelled_nil, spelled_append, spelled_one, back_of}
use Rattle.class_lines.proofs.Descriptors.{class_spelled, member_spelled, characters_spelled, field_spelled, internal_spelled, method_spelled}
use Rattle.class_lines.proofs.LinesRead.{inside_of, line_read}
use Rattle.class_lines.proofs.LineParts.{is_printed, are_printed, Closed, TargetsAre, LabelIs, LabelsAre, line_good}

-- ---- characters

printed_spelled : (text : Text) → are_printed text ≡ true → Spelled text
printed_spelled [] h = spelled_nil
printed_spelled (b ∷ text) h =
    let p = and_parts (is_printed b) (are_printed text) h in
    let q = and_parts (nat_le 32 b) (nat_lt b 127) p.0 in
    let low = leb-true 32 b q.0 in let high = ltb-true b 127 q.1 in
    spelled_one b text (and_from (nat_le 1 b) (nat_lt b 128) (le-leb 1 b (omega arith)) (lt-ltb b 128 (omega arith))) (printed_spelled text p.1)

all_spelled : Closed Spelled
all_spelled = record {
  append = spelled_append;
  printed = printed_spelled;
  class = λ name h. class_spelled name (class_word name h);
  type = λ name h. internal_spelled name (type_word name h);
  member = λ name h. member_spelled name (name_word name h);
  field = λ descriptor h. field_spelled descriptor (field_word descriptor h);
  method = λ descriptor h. method_spelled 0 descriptor (method_word descriptor h);
}

labels_spelled : (labels : List Text) → list_all are_characters labels ≡ true → AllByRecursion Spelled labels
labels_spelled [] h = tt
labels_spelled (l ∷ labels) h = let p = and_parts (are_characters l) (list_all are_characters labels) h in (characters_spelled l p.0, labels_spelled labels p.1)

cases_spelled : (cases : List Case) → list_all (λ (c : Case). are_characters c.label) cases ≡ true → AllByRecursion (λ (c : Case). Spelled c.label) cases
cases_spelled [] h = tt
cases_spelled (c ∷ cases) h = let p = and_parts (are_characters c.label) (list_all (λ (c : Case). are_characters c.label) cases) h in (characters_spelled c.label p.0, cases_spelled cases p.1)

targets_spelled : (o : Operation) → has_text_targets o ≡ true → TargetsAre Spelled o
targets_spelled (Operation.Branch op to) h = characters_spelled to h
targets_spelled (Operation.TableSwitch low labels default) h = let p = and_parts (list_all are_characters labels) (are_characters default) h in (labels_spelled labels p.0, characters_spelled default p.1)
targets_spelled (Operation.LookupSwitch cases default) h = let p = and_parts (list_all (λ (c : Case). are_characters c.label) cases) (are_characters default) h in (cases_spelled cases p.0, characters_spelled default p.1)
targets_spelled _ h = tt

label_spelled : (label : Option Text) → is_text_or_none label ≡ true → LabelIs Spelled label
label_spelled None h = tt
label_spelled (Some label) h = characters_spelled label h

line_labels : (line : Line) → has_text_labels line ≡ true → LabelsAre Spelled line
line_labels (Line.Step label o) h = let p = and_parts (is_text_or_none label) (has_text_targets o) h in (label_spelled label p.0, targets_spelled o p.1)
line_labels (Line.Catch from to handler class) h =
    let p = and_parts (are_characters from) (are_characters to && are_characters handler) h in
    let q = and_parts (are_characters to) (are_characters handler) p.1 in
    (characters_spelled from p.0, characters_spelled to q.0, characters_spelled handler q.1)
line_labels _ h = tt

pub line_heard : (line : Line) → is_line line ≡ true → has_text_labels line ≡ true → heard (utf8_of (line_text line)) ≡ Some (Some line)
unfolding heard
line_heard line h labels =
    ap (λ (o : Option Text). o >>= read_as) (back_of (line_text line) (line_good Spelled all_spelled line h (line_labels line labels))) ∙ line_read line h

-- ---- one line

abbrev OneLine : Text → Type 0
OneLine text = is_one_line text ≡ true

one_append : (xs ys : Text) → OneLine xs → OneLine ys → OneLine (xs ++ ys)
one_append xs ys hx hy = list_all-append is_no_feed xs ys ∙ and_from (is_one_line xs) (is_one_line ys) hx hy

one_printed : (text : Text) → are_printed text ≡ true → OneLine text
one_printed [] h = refl
one_printed (b ∷ text) h =
    let p = and_parts (is_printed b) (are_printed text) h in
    let low = leb-true 32 b (and_parts (nat_le 32 b) (nat_lt b 127) p.0).0 in
    and_from (is_no_feed b) (is_one_line text) (not_from_false (b == 10) (ne_eqb b 10 (λ e. omega arith))) (one_printed text p.1)

no_feed : (b : ℕ) → is_inside b ≡ true → is_no_feed b ≡ true
no_feed b h =
    let p = or_parts (b == 32) (b == 9 || b == 10) (not-true (is_blank b) h) in
    let q = or_parts (b == 9) (b == 10) p.1 in
    not_from_false (b == 10) q.1

one_inside : (word : Text) → list_all is_inside word ≡ true → OneLine word
one_inside [] h = refl
one_inside (b ∷ word) h = let p = and_parts (is_inside b) (list_all is_inside word) h in and_from (is_no_feed b) (is_one_line word) (no_feed b p.0) (one_inside word p.1)

one_word : (kind : WordKind) (word : Text) → fits kind word ≡ true → OneLine word
one_word kind word h = one_inside word (inside_of word (fits_plain kind word h))

all_one : Closed OneLine
all_one = record {
  append = one_append;
  printed = one_printed;
  class = one_word WordKind.ClassName;
  type = one_word WordKind.TypeName;
  member = one_word WordKind.MemberName;
  field = one_word WordKind.FieldDescriptor;
  method = one_word WordKind.MethodDescriptor;
}

labels_one : (labels : List Text) → list_all (fits WordKind.Label) labels ≡ true → AllByRecursion OneLine labels
labels_one [] h = tt
labels_one (l ∷ labels) h = let p = and_parts (fits WordKind.Label l) (list_all (fits WordKind.Label) labels) h in (one_word WordKind.Label l p.0, labels_one labels p.1)

cases_one : (key : ℤ) (cases : List Case) → are_cases key cases ≡ true → AllByRecursion (λ (c : Case). OneLine c.label) cases
cases_one key [] h = tt
cases_one key (c ∷ cases) h =
    let p = and_parts (int_lt key c.key) (is_integer (2 ^ 31 - 1) c.key && (fits WordKind.Label c.label && are_cases c.key cases)) h in
    let q = and_parts (is_integer (2 ^ 31 - 1) c.key) (fits WordKind.Label c.label && are_cases c.key cases) p.1 in
    let r = and_parts (fits WordKind.Label c.label) (are_cases c.key cases) q.1 in
    (one_word WordKind.Label c.label r.0, cases_one c.key cases r.1)

targets_one : (o : Operation) → is_operation o ≡ true → TargetsAre OneLine o
targets_one (Operation.Branch op to) h = one_word WordKind.Label to (and_parts _ (fits WordKind.Label to) h).1
targets_one (Operation.TableSwitch low labels default) h =
    let l = and_parts (is_integer (2 ^ 31 - 1) low) _ h in
    let ls = and_parts (list_all (fits WordKind.Label) labels) _ l.1 in
    let d = and_parts (fits WordKind.Label default) _ ls.1 in
    (labels_one labels ls.0, one_word WordKind.Label default d.0)
targets_one (Operation.LookupSwitch cases default) h =
    let p = and_parts (are_cases (negsuc (2 ^ 31)) cases) (fits WordKind.Label default) h in (cases_one (negsuc (2 ^ 31)) cases p.0, one_word WordKind.Label default p.1)
targets_one _ h = tt

label_one : (label : Option Text) → is_label_or_none label ≡ true → LabelIs OneLine label
label_one None h = tt
label_one (Some label) h = one_word WordKind.Label label (and_parts (fits WordKind.Label label) _ h).0

labels_are_one : (line : Line) → is_line line ≡ true → LabelsAre OneLine line
labels_are_one (Line.Step label o) h = let p = and_parts (is_label_or_none label) (is_operation o) h in (label_one label p.0, targets_one o p.1)
labels_are_one (Line.Catch from to handler class) h =
    let p = and_parts (fits WordKind.Label from) _ h in
    let q = and_parts (fits WordKind.Label to) _ p.1 in
    let r = and_parts (fits WordKind.Label handler) _ q.1 in
    (one_word WordKind.Label from p.0, one_word WordKind.Label to q.0, one_word WordKind.Label handler r.0)
labels_are_one _ h = tt

four_one : (high low : ℕ) → OneLine (four_bytes high low)
four_one high low =
    let n : ℕ = 65536 + (high * 1024 + low) in
    rw (ne_eqb (240 + n / 262144) 10 (λ e. omega arith), ne_eqb (128 + n / 4096 % 64) 10 (λ e. omega arith), ne_eqb (128 + n / 64 % 64) 10 (λ e. omega arith), ne_eqb (128 + n % 64) 10 (λ e. omega arith)) refl

-- no line feed comes in by the recoding
utf8_one : (bytes : List ℕ) → OneLine bytes → OneLine (utf8_of bytes)
utf8_one [] h = h
utf8_one (a ∷ []) h = h
utf8_one (a ∷ b ∷ []) h = h
utf8_one (a ∷ b ∷ c ∷ []) h = h
utf8_one (a ∷ b ∷ c ∷ d ∷ []) h = h
utf8_one (a ∷ b ∷ c ∷ d ∷ e ∷ []) h = h
utf8_one (a ∷ b ∷ c ∷ d ∷ e ∷ f ∷ rest) h =
    let p = and_parts (is_no_feed a) (is_one_line (b ∷ c ∷ d ∷ e ∷ f ∷ rest)) h in
    by (is_pair a b c d e f) (utf8_one rest (behind f rest (behind e (f ∷ rest) (behind d (e ∷ f ∷ rest) (behind c (d ∷ e ∷ f ∷ rest) (behind b (c ∷ d ∷ e ∷ f ∷ rest) p.1)))))) (and_from (is_no_feed a) (is_one_line (utf8_of (b ∷ c ∷ d ∷ e ∷ f ∷ rest))) p.0 (utf8_one (b ∷ c ∷ d ∷ e ∷ f ∷ rest) p.1))
  where
    behind : (b : ℕ) (rest : List ℕ) → OneLine (b ∷ rest) → OneLine rest
    behind b rest h = (and_parts (is_no_feed b) (is_one_line rest) h).1

    by : (t : Bool) → OneLine (utf8_of rest) → OneLine (a ∷ utf8_of (b ∷ c ∷ d ∷ e ∷ f ∷ rest)) → OneLine (cond t (four_bytes (surrogate_bits 0xA0 b c) (surrogate_bits 0xB0 e f) ++ utf8_of rest) (a ∷ utf8_of (b ∷ c ∷ d ∷ e ∷ f ∷ rest)))
    by true one other = one_append (four_bytes (surrogate_bits 0xA0 b c) (surrogate_bits 0xB0 e f)) (utf8_of rest) (four_one (surrogate_bits 0xA0 b c) (surrogate_bits 0xB0 e f)) one
    by false one other = other

pub line_is_one : (line : Line) → is_line line ≡ true → is_one_line (utf8_of (line_text line)) ≡ true
line_is_one line h = utf8_one (line_text line) (line_good OneLine all_one line h (labels_are_one line h))
