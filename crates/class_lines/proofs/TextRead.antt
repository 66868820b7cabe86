-- Hexadecimal numbers and texts in quotes that are printed are read again.
use Rattle.std.proofs.Common.{◌≡◌, ℕ, zero, suc, ◌+◌, ◌*◌, ◌/◌, ◌%◌, ◌-◌, ◌<◌, ◌≤◌, Bool, true, false, ◌&&◌, List, [], ◌∷◌, ◌++◌, length, take, drop, get_or, Option, Some, None, refl, sym, ap, subst, ◌∙◌, arith, inl, inr, length-append}
use Rattle.std.specs.Prelude.{if◌then◌else◌, ◌==◌, nat_le, nat_lt, option_map, codes}
use Rattle.std.specs.List.{list_all, flat_map}
use Rattle.std.specs.Char.{digit_value}
use Rattle.std.specs.Str.Parse.{digits_value}
use Rattle.std.proofs.lemmas.Bool.{lt-ltb, le-leb, ltb-true, leb-true, and_parts, and_from, ne_eqb, eq-eqb, cases_eq, cases_Bool}
use Rattle.std.proofs.lemmas.List.Folds.{list_all-append}
use Rattle.std.proofs.lemmas.Str.{digit_value-digit_char}
use Rattle.std.proofs.lemmas.Int.Digits.{digits_value_push}
use Rattle.std.proofs.Math.Seq.{take-append_seam, drop-append_seam, get_or-append_seam}
use Rattle.aj_names.specs.ModifiedUtf8.{unit_spelling}
use Rattle.class_file.specs.Text.{within, begun, utf8_from, is_utf8}
use Rattle.class_lines.specs.declared.quotes.Piece.{Piece}
use Rattle.class_lines.specs.Fields.{is_inside, fields}
use Rattle.class_lines.specs.Words.{◌>>=◌, Text}
use Rattle.class_lines.specs.Numbers.{is_digit, number, hexadecimal}
use Rattle.class_lines.specs.Quotes.{piece_bytes, with_unit, piece_at, escape_at, pieces, unescaped, inside_quotes, is_text, quoted}
use Rattle.class_lines.specs.Units.{unit_of_two, unit_of_three, units_of}
use Rattle.class_lines.specs.Printing.{spaced, hex_digit, hex_digits, escape, quote}
use Rattle.class_lines.proofs.Trimmed.{trimmed_other}
use Rattle.class_lines.proofs.FieldLists.{inside_above}
use Rattle.class_lines.proofs.UnitLists.{not_below, units_small, units_two, units_three}
use Rattle.class_lines.proofs.Fronts.{Begun, begins, Next, never, last, null_of, second_of, two_of}
use Rattle.class_lines.proofs.Fronts.Begun.{Alone, Null, Last, Second, More, Nothing}
use Rattle.class_lines.proofs.Spaced.{fields_blank}

-- ---- base 16

-- how many numbers have so many digits
abbrev pub numbers : ℕ → ℕ
numbers zero = 1
numbers (suc count) = numbers count * 16

-- all digits but the last, and then that
pub hex_more : (count n : ℕ) → 0 < count → hex_digits count n ≡ hex_digits (count - 1) (n / 16) ++ hex_digit (n % 16) ∷ []
unfolding hex_digits
hex_more zero n some = absurd (omega arith)
hex_more (suc count) n some = let e : count ≡ suc count - 1 = omega arith in ap (λ (c : ℕ). hex_digits c (n / 16) ++ hex_digit (n % 16) ∷ []) e

pub hex_none : (count n : ℕ) → count ≡ 0 → hex_digits count n ≡ []
unfolding hex_digits
hex_none zero n none = refl
hex_none (suc count) n none = absurd (omega arith)

pub length_hex : (count n : ℕ) → length (hex_digits count n) ≡ count
unfolding hex_digits
length_hex zero n = refl
length_hex (suc count) n = omega (arith, length-append (hex_digits count (n / 16)) (hex_digit (n % 16) ∷ []), length_hex count (n / 16))

digit_of : (d : ℕ) → d < 16 → digit_value (hex_digit d) ≡ d
digit_of d lt = digit_value-digit_char d (omega arith)

pub digits_hex : (count n : ℕ) → list_all (is_digit 16) (hex_digits count n) ≡ true
unfolding hex_digits
digits_hex zero n = refl
digits_hex (suc count) n =
    let d : ℕ = n % 16 in
    let one : is_digit 16 (hex_digit d) ≡ true = lt-ltb (digit_value (hex_digit d)) 16 (let e = digit_of d (omega arith) in omega (arith, e)) in
    list_all-append (is_digit 16) (hex_digits count (n / 16)) (hex_digit d ∷ [])
    ∙ and_from (list_all (is_digit 16) (hex_digits count (n / 16))) (is_digit 16 (hex_digit d) && true) (digits_hex count (n / 16)) (and_from (is_digit 16 (hex_digit d)) true one refl)

pub value_hex : (count n : ℕ) → n < numbers count → digits_value 16 (hex_digits count n) ≡ n
unfolding hex_digits
value_hex zero n lt = omega arith
value_hex (suc count) n lt =
    let push = digits_value_push 16 (hex_digits count (n / 16)) (hex_digit (n % 16)) in
    let rest = value_hex count (n / 16) (omega arith) in
    let last = digit_of (n % 16) (omega arith) in
    omega (arith, push, rest, last)

pub hexadecimal_hex : (count most n : ℕ) → 0 < count → n < numbers count → n ≤ most → hexadecimal count most (hex_digits count n) ≡ Some n
unfolding hexadecimal number
hexadecimal_hex count most n some lt le =
    let ds : Text = hex_digits count n in
    ap (λ (t : Bool). if t then number 16 most ds else None) (eq-eqb (length ds) count (length_hex count n))
    ∙ ap (λ (t : Bool). if t && (list_all (is_digit 16) ds && nat_le (digits_value 16 ds) most) then Some (digits_value 16 ds) else None) (lt-ltb 0 (length ds) (omega (arith, length_hex count n)))
    ∙ ap (λ (t : Bool). if t && nat_le (digits_value 16 ds) most then Some (digits_value 16 ds) else None) (digits_hex count n)
    ∙ ap (λ (v : ℕ). if nat_le v most then Some v else None) (value_hex count n lt)
    ∙ ap (λ (t : Bool). if t then Some n else None) (le-leb n most le)

-- a digit is one of 0 to 9 and a to f
pub hex_range : (d : ℕ) → d < 16 → (48 ≤ hex_digit d) × (hex_digit d < 103)
hex_range d lt = elim (cases_Bool (nat_lt d 10)) [
  | inl low ↦ let n = ltb-true d 10 low in rw low (omega arith, omega arith)
  | inr high ↦ rw high (omega arith, omega arith)
]

inside_hex_digit : (d : ℕ) → d < 16 → is_inside (hex_digit d) ≡ true
inside_hex_digit d lt = let r = hex_range d lt in inside_above (hex_digit d) (omega (arith, r.0))

pub inside_hex : (count n : ℕ) → list_all is_inside (hex_digits count n) ≡ true
unfolding hex_digits
inside_hex zero n = refl
inside_hex (suc count) n =
    let d : ℕ = n % 16 in
    list_all-append is_inside (hex_digits count (n / 16)) (hex_digit d ∷ [])
    ∙ and_from (list_all is_inside (hex_digits count (n / 16))) (is_inside (hex_digit d) && true) (inside_hex count (n / 16)) (and_from (is_inside (hex_digit d)) true (inside_hex_digit d (omega arith)) refl)

-- ---- texts in quotes

piece_step : (turns x : ℕ) (rest text : Text) (p : Piece × Text) → piece_at (x ∷ rest) ≡ Some p → pieces turns p.1 ≡ Some text → pieces (suc turns) (x ∷ rest) ≡ Some (piece_bytes p.0 ++ text)
piece_step turns x rest text p here more =
    ap (λ (o : Option (Piece × Text)). o >>= (λ piece. option_map (λ more. piece_bytes piece.0 ++ more) (pieces turns piece.1))) here
    ∙ ap (option_map (λ more. piece_bytes p.0 ++ more)) more

escaped_line_feed : (rest : Text) → piece_at (92 ∷ 110 ∷ rest) ≡ Some (Piece.Unit 10, rest)
unfolding piece_at escape_at
escaped_line_feed rest = refl

escaped_quote : (rest : Text) → piece_at (92 ∷ 34 ∷ rest) ≡ Some (Piece.Unit 34, rest)
unfolding piece_at escape_at
escaped_quote rest = refl

escaped_backslash : (rest : Text) → piece_at (92 ∷ 92 ∷ rest) ≡ Some (Piece.Unit 92, rest)
unfolding piece_at escape_at
escaped_backslash rest = refl

escaped_unit : (u : ℕ) (rest : Text) → u < 65536 → piece_at (92 ∷ 117 ∷ hex_digits 4 u ++ rest) ≡ Some (Piece.Unit u, rest)
unfolding piece_at escape_at
escaped_unit u rest lt =
    let ds : Text = hex_digits 4 u in
    let front : take 4 (ds ++ rest) ≡ ds = ap (λ (n : ℕ). take n (ds ++ rest)) (sym (length_hex 4 u)) ∙ take-append_seam ds rest in
    let back : drop 4 (ds ++ rest) ≡ rest = ap (λ (n : ℕ). drop n (ds ++ rest)) (sym (length_hex 4 u)) ∙ drop-append_seam ds rest in
    ap (λ (l : Text). with_unit l (hexadecimal 4 0xFFFF (take 4 (ds ++ rest)))) back
    ∙ ap (λ (l : Text). with_unit rest (hexadecimal 4 0xFFFF l)) front
    ∙ ap (with_unit rest) (hexadecimal_hex 4 0xFFFF u (omega arith) (omega arith) (omega arith))

itself : (b : ℕ) (rest : Text) → b == 92 ≡ false → b == 34 ≡ false → piece_at (b ∷ rest) ≡ Some (Piece.Byte b, rest)
unfolding piece_at
itself b rest back quote =
    ap (λ (t : Bool). if t then escape_at rest else (if b == 34 then None else Some (Piece.Byte b, rest))) back
    ∙ ap (λ (t : Bool). if t then None else Some (Piece.Byte b, rest)) quote

-- what is read from a text, by as many turns as it has bytes
abbrev Reads : Text → Text → Type 0
Reads written text = (turns : ℕ) → length written ≤ turns → pieces turns written ≡ Some text

-- one piece more
one_piece : (x : ℕ) (front rest text bytes : Text) (p : Piece) → piece_at (x ∷ front ++ rest) ≡ Some (p, rest) → piece_bytes p ≡ bytes → Reads rest text → Reads (x ∷ front ++ rest) (bytes ++ text)
one_piece x front rest text bytes p here is more zero le = absurd (omega arith)
one_piece x front rest text bytes p here is more (suc turns) le =
    piece_step turns x (front ++ rest) text (p, rest) here (more turns (omega (arith, length-append front rest))) ∙ ap (λ (b : Text). Some (b ++ text)) is

-- a unit that is written is read as its bytes
unit_reads : (u : ℕ) (rest text : Text) → u < 65536 → Reads rest text → Reads (escape u ++ rest) (unit_spelling u ++ text)
unit_reads u rest text lt more =
    let Goal : ℕ → Type 0 = λ v. Reads (escape v ++ rest) (unit_spelling v ++ text) in
    elim (cases_eq u 34) [
      | inl e ↦ subst Goal (sym e) (one_piece 92 (34 ∷ []) rest text (34 ∷ []) (Piece.Unit 34) (escaped_quote rest) refl more)
      | inr n1 ↦ elim (cases_eq u 92) [
        | inl e ↦ subst Goal (sym e) (one_piece 92 (92 ∷ []) rest text (92 ∷ []) (Piece.Unit 92) (escaped_backslash rest) refl more)
        | inr n2 ↦ elim (cases_eq u 10) [
          | inl e ↦ subst Goal (sym e) (one_piece 92 (110 ∷ []) rest text (10 ∷ []) (Piece.Unit 10) (escaped_line_feed rest) refl more)
          | inr n3 ↦
              let other : escape u ≡ (if within 32 127 u then u ∷ [] else codes "\\u" ++ hex_digits 4 u) = rw (ne_eqb u 34 n1, ne_eqb u 92 n2, ne_eqb u 10 n3) refl in
              elim (cases_Bool (within 32 127 u)) [
                | inl plain ↦
                    let r = and_parts (nat_le 32 u) (nat_lt u 127) plain in
                    let low = leb-true 32 u r.0 in let high = ltb-true u 127 r.1 in
                    let is : u ∷ [] ≡ unit_spelling u = rw (lt-ltb 0 u (omega arith), lt-ltb u 128 (omega arith)) refl in
                    let bare : escape u ≡ u ∷ [] = other ∙ ap (λ (t : Bool). if t then u ∷ [] else codes "\\u" ++ hex_digits 4 u) plain in
                    subst (λ (l : Text). Reads (l ++ rest) (unit_spelling u ++ text)) (sym bare) (one_piece u [] rest text (unit_spelling u) (Piece.Byte u) (itself u rest (ne_eqb u 92 n2) (ne_eqb u 34 n1)) is more)
                | inr far ↦
                    let digits : escape u ≡ codes "\\u" ++ hex_digits 4 u = other ∙ ap (λ (t : Bool). if t then u ∷ [] else codes "\\u" ++ hex_digits 4 u) far in
                    subst (λ (l : Text). Reads (l ++ rest) (unit_spelling u ++ text)) (sym digits) (one_piece 92 (117 ∷ hex_digits 4 u) rest text (unit_spelling u) (Piece.Unit u) (escaped_unit u rest lt) refl more)
              ]
        ]
      ]
    ]

-- the text is read from its units
abbrev ReadsText : Text → Type 0
ReadsText text = Reads (flat_map escape (units_of text)) text

front_reads : (u : ℕ) (bytes rest text : Text) → text ≡ bytes ++ rest → units_of (bytes ++ rest) ≡ u ∷ units_of rest → unit_spelling u ≡ bytes → u < 65536 → ReadsText rest → ReadsText text
front_reads u bytes rest text is units spelled lt more =
    let here : Reads (escape u ++ flat_map escape (units_of rest)) (unit_spelling u ++ rest) = unit_reads u (flat_map escape (units_of rest)) rest lt more in
    subst ReadsText (sym is)
    (subst (λ (l : List ℕ). Reads (flat_map escape l) (bytes ++ rest)) (sym units) (subst (λ (b : Text). Reads (flat_map escape (u ∷ units_of rest)) (b ++ rest)) spelled here))

one_spelled : (a : ℕ) → 1 ≤ a → a < 128 → unit_spelling a ≡ a ∷ []
one_spelled a some small = rw (lt-ltb 0 a some, lt-ltb a 128 small) refl

two_spelled : (a b : ℕ) → 194 ≤ a → a < 224 → 128 ≤ b → b < 192 → unit_spelling (unit_of_two a b) ≡ a ∷ b ∷ []
two_spelled a b la ha lb hb =
    let u : ℕ = unit_of_two a b in
    let is : u ≡ (a - 192) * 64 + (b - 128) = omega arith in
    let first : 192 + u / 64 ≡ a = omega (arith, is) in
    let second : 128 + u % 64 ≡ b = omega (arith, is) in
    let high : 128 ≤ u = omega (arith, is) in
    rw (lt-ltb 0 u (omega (arith, high)), not_below u 128 high)
    (ap (λ (t : Bool). if t then (192 + u / 64) ∷ (128 + u % 64) ∷ [] else (224 + u / 4096) ∷ (128 + u / 64 % 64) ∷ (128 + u % 64) ∷ []) (lt-ltb u 2048 (omega (arith, is)))
    ∙ ap (λ (x : ℕ). x ∷ (128 + u % 64) ∷ []) first ∙ ap (λ (x : ℕ). a ∷ x ∷ []) second)

pub three_spelled : (a b c : ℕ) → 224 ≤ a → a < 240 → 128 ≤ b → b < 192 → (a ≡ 224 → 160 ≤ b) → 128 ≤ c → c < 192 → unit_spelling (unit_of_three a b c) ≡ a ∷ b ∷ c ∷ []
three_spelled a b c la ha lb hb least lc hc =
    let u : ℕ = unit_of_three a b c in
    let is : u ≡ (a - 224) * 4096 + (b - 128) * 64 + (c - 128) = omega arith in
    let large : 2048 ≤ u = elim (cases_eq a 224) [ inl e ↦ let m = least e in omega (arith, is, m) | inr ne ↦ omega (arith, is, ne) ] in
    let first : 224 + u / 4096 ≡ a = omega (arith, is) in
    let second : 128 + u / 64 % 64 ≡ b = omega (arith, is) in
    let third : 128 + u % 64 ≡ c = omega (arith, is) in
    rw (lt-ltb 0 u (omega (arith, large)), not_below u 128 (omega (arith, large)))
    (ap (λ (t : Bool). if t then (192 + u / 64) ∷ (128 + u % 64) ∷ [] else (224 + u / 4096) ∷ (128 + u / 64 % 64) ∷ (128 + u % 64) ∷ []) (not_below u 2048 large)
    ∙ ap (λ (x : ℕ). x ∷ (128 + u / 64 % 64) ∷ (128 + u % 64) ∷ []) first ∙ ap (λ (x : ℕ). a ∷ x ∷ (128 + u % 64) ∷ []) second ∙ ap (λ (x : ℕ). a ∷ b ∷ x ∷ []) third)

two_small : (a b : ℕ) → unit_of_two a b < 65536
two_small a b = omega arith

three_small : (a b c : ℕ) → unit_of_three a b c < 65536
three_small a b c = omega arith

-- the bytes of three
three_reads : (a low : ℕ) (rest : Text) → 224 ≤ a → a < 240 → 128 ≤ low → (a ≡ 224 → 160 ≤ low) → Next (utf8_from (begun 194)) low 192 rest → ((text : Text) → length text < length rest → is_utf8 text ≡ true → ReadsText text) → ReadsText (a ∷ rest)
three_reads a low rest la ha above least n next =
    let m = last n.rest n.after in
    let b : ℕ = n.byte in let c : ℕ = m.byte in
    let lb : 128 ≤ b = omega (arith, n.above) in
    let e : rest ≡ b ∷ c ∷ m.rest = n.is ∙ ap (λ (l : Text). b ∷ l) m.is in
    front_reads (unit_of_three a b c) (a ∷ b ∷ c ∷ []) m.rest (a ∷ rest) (ap (λ (l : Text). a ∷ l) e) (units_three a b c m.rest la)
    (three_spelled a b c la ha lb n.below (λ i. let k = least i in omega (arith, n.above, k)) m.above m.below) (three_small a b c) (next m.rest (let l = ap length e in omega (arith, l)) m.after)

text_reads : (n : ℕ) (text : Text) → length text ≤ n → is_utf8 text ≡ true → ReadsText text
text_reads n [] le h = no_text
  where
    no_text : ReadsText []
    no_text zero le = refl
    no_text (suc turns) le = refl
text_reads zero (a ∷ rest) le h = absurd (omega arith)
text_reads (suc n) (a ∷ rest) le h = by (λ text lt is. text_reads n text (omega arith) is) (begins a)
  where
    by : ((text : Text) → length text < length (a ∷ rest) → is_utf8 text ≡ true → ReadsText text) → Begun a → ReadsText (a ∷ rest)
    by next (Alone e some small) =
        front_reads a (a ∷ []) rest (a ∷ rest) refl (units_small a rest small) (one_spelled a some small) (omega arith) (next rest (omega arith) (ap (λ x. utf8_from x rest) (sym e) ∙ h))
    by next (Null e) =
        let k = null_of rest (subst (λ (x : ℕ). is_utf8 (x ∷ rest) ≡ true) e h) in
        front_reads 0 (192 ∷ 128 ∷ []) k.0 (a ∷ rest) (ap (λ (x : ℕ). x ∷ rest) e ∙ ap (λ (l : Text). 192 ∷ l) k.1) (units_two 192 128 k.0 (omega arith) (omega arith)) refl (omega arith) (next k.0 (let l = ap length k.1 in omega (arith, l)) k.2)
    by next (Last e low high) =
        let k = last rest (ap (λ x. utf8_from x rest) (sym e) ∙ h) in
        front_reads (unit_of_two a k.byte) (a ∷ k.byte ∷ []) k.rest (a ∷ rest) (ap (λ (l : Text). a ∷ l) k.is) (units_two a k.byte k.rest (omega arith) high) (two_spelled a k.byte low high k.above k.below) (two_small a k.byte) (next k.rest (let l = ap length k.is in omega (arith, l)) k.after)
    by next (Second e i) = three_reads a 160 rest (omega arith) (omega arith) (omega arith) (λ j. omega arith) (second_of rest (ap (λ x. utf8_from x rest) (sym e) ∙ h)) (λ text lt is. next text (omega arith) is)
    by next (More e low high) = three_reads a 128 rest (omega arith) high (omega arith) (λ j. absurd (omega arith)) (two_of rest (ap (λ x. utf8_from x rest) (sym e) ∙ h)) (λ text lt is. next text (omega arith) is)
    by next (Nothing e) = absurd (never rest (ap (λ x. utf8_from x rest) (sym e) ∙ h))

-- what is written is read again
pub units_read : (text : Text) → is_utf8 text ≡ true → unescaped (flat_map escape (units_of text)) ≡ Some text
units_read text is = text_reads (length text) text (omega arith) is (length (flat_map escape (units_of text))) (omega arith)

inside_read : (written : Text) → inside_quotes (34 ∷ written ++ 34 ∷ []) ≡ Some written
unfolding inside_quotes
inside_read written =
    let rest : Text = written ++ 34 ∷ [] in
    let len : length rest - 1 ≡ length written = omega (arith, length-append written (34 ∷ [])) in
    ap (λ (t : Bool). if t && (get_or rest (length rest - 1) 0 == 34) then Some (take (length rest - 1) rest) else None) (lt-ltb 0 (length rest) (omega (arith, length-append written (34 ∷ []))))
    ∙ ap (λ (n : ℕ). if get_or rest n 0 == 34 then Some (take n rest) else None) len
    ∙ ap (λ (t : Bool). if t then Some (take (length written) rest) else None) (eq-eqb (get_or rest (length written) 0) 34 (get_or-append_seam written 34 [] 0))
    ∙ ap Some (take-append_seam written (34 ∷ []))

text_utf8 : (text : Text) → is_text text ≡ true → is_utf8 text ≡ true
unfolding is_text
text_utf8 text h = (and_parts (nat_le (length text) 65535) (is_utf8 text) h).1

pub quoted_quote : (text : Text) → is_text text ≡ true → quoted (quote text) ≡ Some text
unfolding quoted
quoted_quote text is =
    let written : Text = flat_map escape (units_of text) in
    ap (λ (o : Option Text). o >>= unescaped >>= (λ text. if is_text text then Some text else None)) (inside_read written)
    ∙ ap (λ (o : Option Text). o >>= (λ text. if is_text text then Some text else None)) (units_read text (text_utf8 text is))
    ∙ ap (λ (t : Bool). if t then Some text else None) is

-- a text in quotes is the last field
pub fields_quote : (text : Text) → fields (spaced (quote text)) ≡ quote text ∷ []
fields_quote text =
    fields_blank (quote text) ∙ ap (λ (front : Text). front ∷ []) (trimmed_other (34 ∷ flat_map escape (units_of text)) 34 refl)
