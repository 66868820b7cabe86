-- Labels of places in the code.
use Rattle.std.proofs.Common.{◌≡◌, ◌≢◌, ℕ, zero, suc, ◌+◌, ◌/◌, ◌%◌, ◌<◌, ◌≤◌, Bool, true, false, ◌&&◌, [], ◌∷◌, length, drop, refl, sym, ap, ◌∙◌, arith, Some, pos}
use Rattle.std.specs.Prelude.{if◌then◌else◌, ◌==◌, nat_lt, nat_le}
use Rattle.std.specs.List.{list_all}
use Rattle.std.specs.Fmt.{decimal, digits, digits_onto, digit_glyph}
use Rattle.std.proofs.lemmas.Bool.{and_parts, and_from, le-leb, lt-ltb, leb-true, ltb-true, ne_eqb, not_from_false}
use Rattle.std.proofs.lemmas.Fmt.{decimal_injective}
use Rattle.class_file.specs.Text.{is_utf8, is_paired}
use Rattle.class_lines.specs.Fields.{is_inside}
use Rattle.class_lines.specs.Words.{Text, is_plain, is_label_byte, is_label, is_of_kind, fits}
use Rattle.class_lines.specs.Lines.{is_free, are_characters, is_label_or_none}
use Rattle.class_lines.proofs.WordKinds.{label_kind}
use Rattle.class_lines.proofs.NumbersRead.{key_signed, plain_signed}
use Rattle.class_lines.proofs.LinesRead.{inside_of}
use Rattle.class_lines.proofs.LineParts.{is_printed, are_printed, decimal_printed}
use Rattle.class_listing.specs.Names.{label}

-- ---- visible ASCII

outside : (b : ℕ) (text : Text) → b < 127 → is_paired (b ∷ text) ≡ is_paired text
outside b text lt = rw (ne_eqb b 0xED (λ e. omega arith)) refl

whole : (b : ℕ) (text : Text) → 32 ≤ b → b < 127 → is_utf8 (b ∷ text) ≡ is_utf8 text
whole b text low high = rw (and_from (nat_le 1 b) (nat_lt b 0x80) (le-leb 1 b (omega arith)) (lt-ltb b 0x80 (omega arith))) refl

printed_bounds : (b : ℕ) → is_printed b ≡ true → (32 ≤ b) × (b < 127)
printed_bounds b h = let p = and_parts (nat_le 32 b) (nat_lt b 127) h in (leb-true 32 b p.0, ltb-true b 127 p.1)

printed_utf8 : (text : Text) → are_printed text ≡ true → is_utf8 text ≡ true
printed_utf8 [] h = refl
printed_utf8 (b ∷ text) h = let p = and_parts (is_printed b) (are_printed text) h in let r = printed_bounds b p.0 in whole b text r.0 r.1 ∙ printed_utf8 text p.1

printed_paired : (text : Text) → are_printed text ≡ true → is_paired text ≡ true
printed_paired [] h = refl
printed_paired (b ∷ text) h = let p = and_parts (is_printed b) (are_printed text) h in let r = printed_bounds b p.0 in outside b text r.1 ∙ printed_paired text p.1

printed_free : (text : Text) → are_printed text ≡ true → list_all is_free text ≡ true
printed_free [] h = refl
printed_free (b ∷ text) h =
    let p = and_parts (is_printed b) (are_printed text) h in
    let r = printed_bounds b p.0 in
    let high = r.1 in
    and_from (is_free b) (list_all is_free text) (not_from_false (b == 0xC0) (ne_eqb b 0xC0 (λ e. omega arith))) (printed_free text p.1)

printed_characters : (text : Text) → are_printed text ≡ true → are_characters text ≡ true
printed_characters text h =
    and_from (is_utf8 text) (is_paired text && list_all is_free text) (printed_utf8 text h) (and_from (is_paired text) (list_all is_free text) (printed_paired text h) (printed_free text h))

-- ---- one label

onto_length : (k base : ℕ) (upper : Bool) (n : ℕ) (acc : Text) → length (digits_onto k base upper n acc) ≤ k + length acc
onto_length zero base upper n acc = omega arith
onto_length (suc k) base upper n acc = by (n / base == 0) (onto_length k base upper (n / base) (digit_glyph upper (n % base) ∷ acc))
  where
    by : (t : Bool) → length (digits_onto k base upper (n / base) (digit_glyph upper (n % base) ∷ acc)) ≤ k + length (digit_glyph upper (n % base) ∷ acc) → length (if t then digit_glyph upper (n % base) ∷ acc else digits_onto k base upper (n / base) (digit_glyph upper (n % base) ∷ acc)) ≤ suc k + length acc
    by true le = omega arith
    by false le = omega arith

decimal_length : (n : ℕ) → length (decimal n) ≤ 64
unfolding digits
decimal_length n = omega (arith, onto_length 64 10 false n [])

pub label_fits : (q : ℕ) → q ≤ 65535 → fits label_kind (label (pos q)) ≡ true
unfolding fits is_of_kind is_label
label_fits q le =
    let ds : Text = decimal q in
    let inside : list_all is_inside ds ≡ true = inside_of ds (plain_signed (pos q) 65535 (omega arith) le) in
    let keys : list_all is_label_byte ds ≡ true = key_signed (pos q) 65535 (omega arith) le in
    let few : nat_le (length (76 ∷ ds)) 65535 ≡ true = le-leb (length (76 ∷ ds)) 65535 (omega (arith, decimal_length q)) in
    let some : nat_lt 0 (length (76 ∷ ds)) ≡ true = lt-ltb 0 (length (76 ∷ ds)) (omega arith) in
    and_from (is_plain (76 ∷ ds)) (nat_le (length (76 ∷ ds)) 65535 && (nat_lt 0 (length (76 ∷ ds)) && list_all is_label_byte (76 ∷ ds))) inside
    (and_from (nat_le (length (76 ∷ ds)) 65535) (nat_lt 0 (length (76 ∷ ds)) && list_all is_label_byte (76 ∷ ds)) few
    (and_from (nat_lt 0 (length (76 ∷ ds))) (list_all is_label_byte (76 ∷ ds)) some keys))

pub label_characters : (q : ℕ) → q ≤ 65535 → are_characters (label (pos q)) ≡ true
label_characters q le = printed_characters (label (pos q)) (decimal_printed q (omega arith))

pub label_shown : (q : ℕ) → q ≤ 65535 → is_label_or_none (Some (label (pos q))) ≡ true
label_shown q le = and_from (fits label_kind (label (pos q))) true (label_fits q le) refl

-- ---- each place has its own

-- a label of no place of code
pub many : ℕ → Text
many zero = 0 ∷ []
many (suc n) = 0 ∷ many n

many_length : (n : ℕ) → length (many n) ≡ suc n
unfolding many
many_length zero = refl
many_length (suc n) = ap suc (many_length n)

many_first : (n : ℕ) (ds : Text) → 76 ∷ ds ≢ many n
unfolding many
many_first zero ds e = absurd cc
many_first (suc n) ds e = absurd cc

-- a label of each number, which is that of the place where code may have one
unfoldable pub label_of : ℕ → Text
label_of q = if nat_le q 65535 then label (pos q) else many q

pub label_is : (q : ℕ) → q ≤ 65535 → label_of q ≡ label (pos q)
unfolding label_of
label_is q le = ap (λ (t : Bool). if t then label (pos q) else many q) (le-leb q 65535 le)

pub apart : (a b : ℕ) → label_of a ≡ label_of b → a ≡ b
unfolding label_of
apart a b e = by (nat_le a 65535) (nat_le b 65535) refl refl e
  where
    by : (t u : Bool) → nat_le a 65535 ≡ t → nat_le b 65535 ≡ u → (if t then label (pos a) else many a) ≡ (if u then label (pos b) else many b) → a ≡ b
    by true true s t e = let la = leb-true a 65535 s in let lb = leb-true b 65535 t in decimal_injective a b (omega arith) (omega arith) (ap (drop 1) e)
    by true false s t e = absurd (many_first b (decimal a) e)
    by false true s t e = absurd (many_first a (decimal b) (sym e))
    by false false s t e = omega (arith, ap length e, many_length a, many_length b)
