-- What holds of the words of a line of the form holds of its text.
use Rattle.std.proofs.Common.{◌≡◌, ℕ, zero, suc, ◌-◌, ◌/◌, ◌%◌, ◌^◌, ◌<◌, ◌≤◌, Bool, true, false, not, ◌&&◌, List, [], ◌∷◌, ◌++◌, Option, Some, None, refl, sym, ap, subst, ◌∙◌, arith, inl, inr}
use Rattle.std.specs.Prelude.{if◌then◌else◌, nat_le, nat_lt, int_lt, map, codes, ℤ, pos, negsuc}
use Rattle.std.specs.List.{list_all, flat_map, AllByRecursion}
use Rattle.std.specs.Fmt.{decimal, signed_decimal}
use Rattle.std.specs.Str.{bytes_eq}
use Rattle.std.specs.Str.Parse.{AllDigits}
use Rattle.std.proofs.lemmas.Bool.{and_parts, and_from, le-leb, lt-ltb, leb-true, ltb-true, ne_eqb, cases_eq}
use Rattle.std.proofs.lemmas.List.Folds.{list_all-append}
use Rattle.std.proofs.lemmas.Fmt.{decimal_is_IsNumeral}
use Rattle.std.proofs.lemmas.Str.Parse.{digit_from_value}
use Rattle.opcode_table.specs.Table.{mnemonic_of, opcode}
use Rattle.opcode_table.specs.Decoding.{each_below}
use Rattle.opcode_table.specs.Each.{at_each}
use Rattle.class_file.specs.Text.{within}
use Rattle.class_lines.specs.declared.line.Line.{Line}
use Rattle.class_lines.specs.declared.line.MemberHead.{MemberHead}
use Rattle.class_lines.specs.declared.line.Operation.{Operation}
use Rattle.class_lines.specs.declared.line.Constant.{Constant}
use Rattle.class_lines.specs.declared.line.Case.{Case}
use Rattle.class_lines.specs.declared.words.WordKind.{WordKind}
use Rattle.class_lines.specs.Words.{Text, fits}
use Rattle.class_lines.specs.Units.{units_of}
use Rattle.class_lines.specs.Heads.{takes_few}
use Rattle.class_lines.specs.Lines.{is_integer, is_constant, is_member_type, is_class_op, are_cases, is_operation, is_head, is_label_or_none, is_caught, is_line}
use Rattle.class_lines.specs.Printing.{spaced, all_spaced, natural_text, hex_digit, hex_digits, escape, quote, constant_text, case_text, default_text, op_of, operands_text, operation_text, head_text, interfaces_text, label_text, caught_text, line_text}
use Rattle.class_lines.proofs.NumbersRead.{Within}
use Rattle.class_lines.proofs.TextRead.{hex_range}
use Rattle.class_lines.proofs.OperationsRead.{within_of, operation_read}
use Rattle.class_lines.proofs.LinesRead.{either_of}

-- ---- visible bytes of ASCII

abbrev pub is_printed : ℕ → Bool
is_printed b = within 32 127 b

abbrev pub are_printed : Text → Bool
are_printed text = list_all is_printed text

printed_at : (b : ℕ) → 32 ≤ b → b < 127 → is_printed b ≡ true
printed_at b low high = and_from (nat_le 32 b) (nat_lt b 127) (le-leb 32 b low) (lt-ltb b 127 high)

pub printed_append : (xs ys : Text) → are_printed xs ≡ true → are_printed ys ≡ true → are_printed (xs ++ ys) ≡ true
printed_append xs ys hx hy = list_all-append is_printed xs ys ∙ and_from (are_printed xs) (are_printed ys) hx hy

digits_printed : (ds : Text) → AllDigits 10 ds → are_printed ds ≡ true
digits_printed [] h = refl
digits_printed (d ∷ ds) h =
    let range = digit_from_value d h.0 in and_from (is_printed d) (are_printed ds) (printed_at d (omega (arith, range.0)) (omega (arith, range.1))) (digits_printed ds h.1)

pub decimal_printed : (n : ℕ) → n < 2 ^ 64 → are_printed (decimal n) ≡ true
decimal_printed n small = digits_printed (decimal n) (decimal_is_IsNumeral n small).0.1

pub signed_printed : (z : ℤ) (most : ℕ) → most < 2 ^ 63 → Within most z → are_printed (signed_decimal z) ≡ true
signed_printed (pos n) most small le = decimal_printed n (omega arith)
signed_printed (negsuc n) most small le = decimal_printed (suc n) (omega arith)

hex_printed : (count n : ℕ) → are_printed (hex_digits count n) ≡ true
unfolding hex_digits
hex_printed zero n = refl
hex_printed (suc count) n =
    let d : ℕ = n % 16 in
    let r = hex_range d (omega arith) in
    printed_append (hex_digits count (n / 16)) (hex_digit d ∷ []) (hex_printed count (n / 16))
    (and_from (is_printed (hex_digit d)) true (printed_at (hex_digit d) (omega (arith, r.0)) (omega (arith, r.1))) refl)

escape_printed : (u : ℕ) → are_printed (escape u) ≡ true
escape_printed u =
    elim (cases_eq u 34) [
      | inl e ↦ subst (λ (v : ℕ). are_printed (escape v) ≡ true) (sym e) refl
      | inr n1 ↦ elim (cases_eq u 92) [
        | inl e ↦ subst (λ (v : ℕ). are_printed (escape v) ≡ true) (sym e) refl
        | inr n2 ↦ elim (cases_eq u 10) [
          | inl e ↦ subst (λ (v : ℕ). are_printed (escape v) ≡ true) (sym e) refl
          | inr n3 ↦
              let other : escape u ≡ (if within 32 127 u then u ∷ [] else codes "\\u" ++ hex_digits 4 u) = rw (ne_eqb u 34 n1, ne_eqb u 92 n2, ne_eqb u 10 n3) refl in
              ap are_printed other ∙ by (within 32 127 u) refl
        ]
      ]
    ]
  where
    by : (t : Bool) → within 32 127 u ≡ t → are_printed (if t then u ∷ [] else codes "\\u" ++ hex_digits 4 u) ≡ true
    by true e = and_from (is_printed u) true e refl
    by false e = printed_append (codes "\\u") (hex_digits 4 u) refl (hex_printed 4 u)

units_printed : (units : List ℕ) → are_printed (flat_map escape units) ≡ true
units_printed [] = refl
units_printed (u ∷ units) = printed_append (escape u) (flat_map escape units) (escape_printed u) (units_printed units)

quote_printed : (text : Text) → are_printed (quote text) ≡ true
quote_printed text =
    printed_append (34 ∷ flat_map escape (units_of text)) (34 ∷ []) (printed_append (34 ∷ []) (flat_map escape (units_of text)) refl (units_printed (units_of text))) refl

abbrev has_printed : ℕ → Bool
has_printed op = are_printed (mnemonic_of op)

all_printed : each_below 202 has_printed ≡ true
unfolding opcode
all_printed = refl

-- ---- words

-- it holds of what is put together, of visible ASCII and of the words of each kind
pub record Closed (Good : Text → Type 0) : Type 0 where
  pub append : (xs ys : Text) → Good xs → Good ys → Good (xs ++ ys)
  pub printed : (text : Text) → are_printed text ≡ true → Good text
  pub class : (name : Text) → fits WordKind.ClassName name ≡ true → Good name
  pub type : (name : Text) → fits WordKind.TypeName name ≡ true → Good name
  pub member : (name : Text) → fits WordKind.MemberName name ≡ true → Good name
  pub field : (descriptor : Text) → fits WordKind.FieldDescriptor descriptor ≡ true → Good descriptor
  pub method : (descriptor : Text) → fits WordKind.MethodDescriptor descriptor ≡ true → Good descriptor

-- it holds of the labels
abbrev pub TargetsAre : (Text → Type 0) → Operation → Type 0
TargetsAre Good (Operation.Branch op to) = Good to
TargetsAre Good (Operation.TableSwitch low labels default) = AllByRecursion Good labels × Good default
TargetsAre Good (Operation.LookupSwitch cases default) = AllByRecursion (λ (c : Case). Good c.label) cases × Good default
TargetsAre Good _ = Unit {0}

abbrev pub LabelIs : (Text → Type 0) → Option Text → Type 0
LabelIs Good None = Unit {0}
LabelIs Good (Some label) = Good label

abbrev pub LabelsAre : (Text → Type 0) → Line → Type 0
LabelsAre Good (Line.Step label o) = LabelIs Good label × TargetsAre Good o
LabelsAre Good (Line.Catch from to handler class) = Good from × Good to × Good handler
LabelsAre Good _ = Unit {0}

module _ (Good : Text → Type 0) (c : Closed Good) where
  spaced_good : (w : Text) → Good w → Good (spaced w)
  spaced_good w g = c.append (32 ∷ []) w (c.printed (32 ∷ []) refl) g

  words_good : (words : List Text) → AllByRecursion Good words → Good (all_spaced words)
  words_good [] g = c.printed [] refl
  words_good (w ∷ words) g = c.append (spaced w) (all_spaced words) (spaced_good w g.0) (words_good words g.1)

  decimal_good : (n : ℕ) → n < 2 ^ 64 → Good (decimal n)
  decimal_good n lt = c.printed (decimal n) (decimal_printed n lt)

  signed_good : (most : ℕ) (z : ℤ) → most < 2 ^ 63 → is_integer most z ≡ true → Good (signed_decimal z)
  signed_good most z small h = c.printed (signed_decimal z) (signed_printed z most small (within_of most z h))

  named_good : (word : Text) (n : ℕ) → are_printed word ≡ true → n < 2 ^ 64 → Good (natural_text word n)
  named_good word n h lt = c.append (spaced word) (spaced (decimal n)) (spaced_good word (c.printed word h)) (spaced_good (decimal n) (decimal_good n lt))

  constant_good : (k : Constant) → is_constant k ≡ true → Good (constant_text k)
  constant_good (Constant.Int n) h = signed_good (2 ^ 31 - 1) n (omega arith) h
  constant_good (Constant.Float bits) h = c.append (codes "float:") (hex_digits 8 bits) (c.printed (codes "float:") refl) (c.printed (hex_digits 8 bits) (hex_printed 8 bits))
  constant_good (Constant.Text text) h = c.printed (quote text) (quote_printed text)
  constant_good (Constant.Class class) h = c.type class (and_parts (fits WordKind.TypeName class) _ h).0

  cases_good : (key : ℤ) (cases : List Case) → are_cases key cases ≡ true → AllByRecursion (λ (k : Case). Good k.label) cases → Good (all_spaced (map case_text cases))
  cases_good key [] h g = c.printed [] refl
  cases_good key (k ∷ cases) h g =
      let p = and_parts (int_lt key k.key) (is_integer (2 ^ 31 - 1) k.key && (fits WordKind.Label k.label && are_cases k.key cases)) h in
      let q = and_parts (is_integer (2 ^ 31 - 1) k.key) (fits WordKind.Label k.label && are_cases k.key cases) p.1 in
      let r = and_parts (fits WordKind.Label k.label) (are_cases k.key cases) q.1 in
      let one : Good (case_text k) = c.append (signed_decimal k.key) (58 ∷ k.label) (signed_good (2 ^ 31 - 1) k.key (omega arith) q.0) (c.append (58 ∷ []) k.label (c.printed (58 ∷ []) refl) g.0) in
      c.append (spaced (case_text k)) (all_spaced (map case_text cases)) (spaced_good (case_text k) one) (cases_good k.key cases r.1 g.1)

  default_good : (default : Text) → Good default → Good (default_text default)
  default_good default g = words_good (codes "default" ∷ default ∷ []) (c.printed (codes "default") refl, (g, tt))

  type_good : (op : ℕ) (descriptor : Text) → is_member_type op descriptor ≡ true → Good descriptor
  type_good op descriptor h =
      elim (either_of (within 178 182 op && fits WordKind.FieldDescriptor descriptor) (within 182 186 op && fits WordKind.MethodDescriptor descriptor) h) [
        | inl f ↦ c.field descriptor (and_parts (within 178 182 op) (fits WordKind.FieldDescriptor descriptor) f).1
        | inr f ↦ c.method descriptor (and_parts (within 182 186 op) (fits WordKind.MethodDescriptor descriptor) f).1
      ]

  operands_good : (o : Operation) → is_operation o ≡ true → TargetsAre Good o → Good (operands_text o)
  operands_good (Operation.Plain op) h g = c.printed [] refl
  operands_good (Operation.Bipush value) h g = spaced_good (signed_decimal value) (signed_good 127 value (omega arith) h)
  operands_good (Operation.Sipush value) h g = spaced_good (signed_decimal value) (signed_good 32767 value (omega arith) h)
  operands_good (Operation.Local op index) h g = let le = leb-true index 65535 (and_parts _ (nat_le index 65535) h).1 in spaced_good (decimal index) (decimal_good index (omega arith))
  operands_good (Operation.Iinc index by) h g =
      let p = and_parts (nat_le index 65535) (is_integer 32767 by) h in
      let le = leb-true index 65535 p.0 in
      words_good (decimal index ∷ signed_decimal by ∷ []) (decimal_good index (omega arith), (signed_good 32767 by (omega arith) p.1, tt))
  operands_good (Operation.Constant op constant) h g = spaced_good (constant_text constant) (constant_good constant (and_parts _ (is_constant constant) h).1)
  operands_good (Operation.Long n) h g = spaced_good (signed_decimal n) (signed_good (2 ^ 63 - 1) n (omega arith) h)
  operands_good (Operation.Double bits) h g = spaced_good (codes "double:" ++ hex_digits 16 bits) (c.append (codes "double:") (hex_digits 16 bits) (c.printed (codes "double:") refl) (c.printed (hex_digits 16 bits) (hex_printed 16 bits)))
  operands_good (Operation.Member op class name descriptor) h g =
      let p = and_parts (fits WordKind.TypeName class) (fits WordKind.MemberName name && is_member_type op descriptor) h in
      let q = and_parts (fits WordKind.MemberName name) (is_member_type op descriptor) p.1 in
      words_good (class ∷ name ∷ descriptor ∷ []) (c.type class p.0, (c.member name q.0, (type_good op descriptor q.1, tt)))
  operands_good (Operation.Class op class) h g = spaced_good class (c.type class (and_parts (fits WordKind.TypeName class) (is_class_op op class) h).0)
  operands_good (Operation.NewArray code) h g = let lt = ltb-true code 12 (and_parts (nat_le 4 code) (nat_lt code 12) h).1 in spaced_good (decimal code) (decimal_good code (omega arith))
  operands_good (Operation.Multi class dims) h g =
      let p = and_parts (fits WordKind.TypeName class) _ h in
      let le = leb-true dims 255 (and_parts (nat_le dims 255) _ p.1).0 in
      words_good (class ∷ decimal dims ∷ []) (c.type class p.0, (decimal_good dims (omega arith), tt))
  operands_good (Operation.Branch op to) h g = spaced_good to g
  operands_good (Operation.TableSwitch low labels default) h g =
      let p = and_parts (is_integer (2 ^ 31 - 1) low) _ h in
      c.append (spaced (signed_decimal low) ++ all_spaced labels) (default_text default)
      (c.append (spaced (signed_decimal low)) (all_spaced labels) (spaced_good (signed_decimal low) (signed_good (2 ^ 31 - 1) low (omega arith) p.0)) (words_good labels g.0)) (default_good default g.1)
  operands_good (Operation.LookupSwitch cases default) h g =
      let p = and_parts (are_cases (negsuc (2 ^ 31)) cases) (fits WordKind.Label default) h in
      c.append (all_spaced (map case_text cases)) (default_text default) (cases_good (negsuc (2 ^ 31)) cases p.0 g.0) (default_good default g.1)

  operation_good : (o : Operation) → is_operation o ≡ true → TargetsAre Good o → Good (operation_text o)
  operation_good o h g =
      let w : Text = mnemonic_of (op_of o) in
      let lt = (operation_read o h).lt in
      c.append (spaced w) (operands_text o) (spaced_good w (c.printed w (at_each has_printed 202 (op_of o) lt all_printed))) (operands_good o h g)

  head_good : (head : MemberHead) → Good head.name → Good head.descriptor → head.flags ≤ 65535 → Good (head_text head)
  head_good head name descriptor flags =
      c.append (all_spaced (head.name ∷ head.descriptor ∷ [])) (natural_text (codes "flags") head.flags) (words_good (head.name ∷ head.descriptor ∷ []) (name, (descriptor, tt))) (named_good (codes "flags") head.flags refl (omega arith))

  field_head_good : (head : MemberHead) → is_head WordKind.FieldDescriptor head ≡ true → Good (head_text head)
  field_head_good head h =
      let p = and_parts (fits WordKind.MemberName head.name) (fits WordKind.FieldDescriptor head.descriptor && nat_le head.flags 65535) h in
      let q = and_parts (fits WordKind.FieldDescriptor head.descriptor) (nat_le head.flags 65535) p.1 in
      head_good head (c.member head.name p.0) (c.field head.descriptor q.0) (leb-true head.flags 65535 q.1)

  method_head_good : (head : MemberHead) → is_head WordKind.MethodDescriptor head ≡ true → Good (head_text head)
  method_head_good head h =
      let p = and_parts (fits WordKind.MemberName head.name) (fits WordKind.MethodDescriptor head.descriptor && nat_le head.flags 65535) h in
      let q = and_parts (fits WordKind.MethodDescriptor head.descriptor) (nat_le head.flags 65535) p.1 in
      head_good head (c.member head.name p.0) (c.method head.descriptor q.0) (leb-true head.flags 65535 q.1)

  names_good : (names : List Text) → list_all (fits WordKind.ClassName) names ≡ true → AllByRecursion Good names
  names_good [] h = tt
  names_good (name ∷ names) h = let p = and_parts (fits WordKind.ClassName name) (list_all (fits WordKind.ClassName) names) h in (c.class name p.0, names_good names p.1)

  interfaces_good : (names : List Text) → list_all (fits WordKind.ClassName) names ≡ true → Good (interfaces_text names)
  interfaces_good [] h = c.printed [] refl
  interfaces_good (name ∷ names) h = words_good (codes "interface" ∷ name ∷ names) (c.printed (codes "interface") refl, names_good (name ∷ names) h)

  label_good : (label : Option Text) → LabelIs Good label → Good (label_text label)
  label_good None g = c.printed [] refl
  label_good (Some label) g = spaced_good (label ++ 58 ∷ []) (c.append label (58 ∷ []) g (c.printed (58 ∷ []) refl))

  caught_good : (class : Option Text) → is_caught class ≡ true → Good (caught_text class)
  caught_good None h = c.printed (codes "any") refl
  caught_good (Some class) h = c.type class (and_parts (fits WordKind.TypeName class) (not (bytes_eq class (codes "any"))) h).0

  pub line_good : (line : Line) → is_line line ≡ true → LabelsAre Good line → Good (line_text line)
  line_good (Line.Class name super version flags interfaces) h g =
      let p = and_parts (fits WordKind.ClassName name) (fits WordKind.ClassName super && (within 46 50 version && (nat_le flags 65535 && list_all (fits WordKind.ClassName) interfaces))) h in
      let q = and_parts (fits WordKind.ClassName super) (within 46 50 version && (nat_le flags 65535 && list_all (fits WordKind.ClassName) interfaces)) p.1 in
      let r = and_parts (within 46 50 version) (nat_le flags 65535 && list_all (fits WordKind.ClassName) interfaces) q.1 in
      let s = and_parts (nat_le flags 65535) (list_all (fits WordKind.ClassName) interfaces) r.1 in
      let v = ltb-true version 50 (and_parts (nat_le 46 version) (nat_lt version 50) r.0).1 in
      let f = leb-true flags 65535 s.0 in
      let names : Text = all_spaced (name ∷ codes "super" ∷ super ∷ []) in
      let vs : Text = natural_text (codes "version") version in
      let fs : Text = natural_text (codes "flags") flags in
      c.append (codes "class" ++ names ++ vs ++ fs) (interfaces_text interfaces)
      (c.append (codes "class" ++ names ++ vs) fs
      (c.append (codes "class" ++ names) vs
      (c.append (codes "class") names (c.printed (codes "class") refl) (words_good (name ∷ codes "super" ∷ super ∷ []) (c.class name p.0, (c.printed (codes "super") refl, (c.class super q.0, tt)))))
      (named_good (codes "version") version refl (omega arith)))
      (named_good (codes "flags") flags refl (omega arith)))
      (interfaces_good interfaces s.1)
  line_good (Line.Field head) h g = c.append (codes "field") (head_text head) (c.printed (codes "field") refl) (field_head_good head h)
  line_good (Line.Method head stack locals) h g =
      let p = and_parts (is_head WordKind.MethodDescriptor head) (takes_few head && (nat_le stack 65535 && nat_le locals 65535)) h in
      let q = and_parts (takes_few head) (nat_le stack 65535 && nat_le locals 65535) p.1 in
      let r = and_parts (nat_le stack 65535) (nat_le locals 65535) q.1 in
      let s = leb-true stack 65535 r.0 in
      let l = leb-true locals 65535 r.1 in
      let ss : Text = natural_text (codes "stack") stack in
      let ls : Text = natural_text (codes "locals") locals in
      c.append (codes "method" ++ head_text head ++ ss) ls
      (c.append (codes "method" ++ head_text head) ss
      (c.append (codes "method") (head_text head) (c.printed (codes "method") refl) (method_head_good head p.0))
      (named_good (codes "stack") stack refl (omega arith)))
      (named_good (codes "locals") locals refl (omega arith))
  line_good (Line.Bare head) h g =
      let p = and_parts (is_head WordKind.MethodDescriptor head) (takes_few head) h in
      c.append (codes "method" ++ head_text head) (spaced (codes "none")) (c.append (codes "method") (head_text head) (c.printed (codes "method") refl) (method_head_good head p.0)) (spaced_good (codes "none") (c.printed (codes "none") refl))
  line_good (Line.Step label o) h g =
      let p = and_parts (is_label_or_none label) (is_operation o) h in
      c.append (32 ∷ label_text label) (operation_text o) (spaced_good (label_text label) (label_good label g.0)) (operation_good o p.1 g.1)
  line_good (Line.Catch from to handler class) h g =
      let p = and_parts (fits WordKind.Label from) (fits WordKind.Label to && (fits WordKind.Label handler && is_caught class)) h in
      let q = and_parts (fits WordKind.Label to) (fits WordKind.Label handler && is_caught class) p.1 in
      let r = and_parts (fits WordKind.Label handler) (is_caught class) q.1 in
      let words : List Text = codes "catch" ∷ from ∷ to ∷ handler ∷ caught_text class ∷ [] in
      spaced_good (all_spaced words) (words_good words (c.printed (codes "catch") refl, (g.0, (g.1, (g.2, (caught_good class r.1, tt))))))
  line_good Line.End h g = c.printed (codes "end") refl
