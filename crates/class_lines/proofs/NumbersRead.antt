-- Numbers that are printed are read again.
use Rattle.std.proofs.Common.{◌≡◌, ℕ, suc, ◌^◌, ◌<◌, ◌≤◌, Bool, true, not, ◌&&◌, [], ◌∷◌, length, Some, None, refl, ap, ◌∙◌, arith}
use Rattle.std.specs.Prelude.{if◌then◌else◌, ◌==◌, nat_le, ℤ, pos, negsuc, neg_ℤ, option_map}
use Rattle.std.specs.List.{list_all}
use Rattle.std.specs.Char.{digit_value}
use Rattle.std.specs.Str.Parse.{AllDigits, digits_value}
use Rattle.std.specs.Fmt.{decimal, signed_decimal}
use Rattle.std.proofs.lemmas.Bool.{lt-ltb, le-leb, and_from, ne_eqb}
use Rattle.std.proofs.lemmas.Fmt.{decimal_is_IsNumeral}
use Rattle.std.proofs.lemmas.Str.Parse.{digit_from_value}
use Rattle.class_lines.specs.Fields.{is_inside}
use Rattle.class_lines.specs.Words.{Text, is_plain}
use Rattle.class_lines.specs.Numbers.{is_digit, number, natural, integer}
use Rattle.class_lines.specs.Operations.{is_key_byte}
use Rattle.class_lines.proofs.FieldLists.{inside_above}

digits_pass : (ds : Text) → AllDigits 10 ds → list_all (is_digit 10) ds ≡ true
digits_pass [] h = refl
digits_pass (d ∷ ds) h = and_from (is_digit 10 d) (list_all (is_digit 10) ds) (lt-ltb (digit_value d) 10 h.0) (digits_pass ds h.1)

numeral : (most n : ℕ) (ds : Text) → 0 < length ds → list_all (is_digit 10) ds ≡ true → digits_value 10 ds ≡ n → n ≤ most → natural most ds ≡ Some n
unfolding number
numeral most n ds some all is le =
    ap (λ (t : Bool). if t && (list_all (is_digit 10) ds && nat_le (digits_value 10 ds) most) then Some (digits_value 10 ds) else None) (lt-ltb 0 (length ds) some)
    ∙ ap (λ (t : Bool). if t && nat_le (digits_value 10 ds) most then Some (digits_value 10 ds) else None) all
    ∙ ap (λ (v : ℕ). if nat_le v most then Some v else None) is
    ∙ ap (λ (t : Bool). if t then Some n else None) (le-leb n most le)

pub natural_decimal : (most n : ℕ) → n ≤ most → n < 2 ^ 64 → natural most (decimal n) ≡ Some n
natural_decimal most n le small =
    let is = decimal_is_IsNumeral n small in
    numeral most n (decimal n) is.0.0 (digits_pass (decimal n) is.0.1) is.1 le

inside_digits : (ds : Text) → AllDigits 10 ds → list_all is_inside ds ≡ true
inside_digits [] h = refl
inside_digits (d ∷ ds) h =
    let range = digit_from_value d h.0 in
    let inside : is_inside d ≡ true = inside_above d (omega (arith, range.0)) in
    and_from (is_inside d) (list_all is_inside ds) inside (inside_digits ds h.1)

plain_digits : (ds : Text) → 0 < length ds → AllDigits 10 ds → is_plain ds ≡ true
plain_digits [] some h = absurd (omega arith)
plain_digits (d ∷ ds) some h =
    let range = digit_from_value d h.0 in
    and_from (not (d == 34)) (list_all is_inside (d ∷ ds)) (ap not (ne_eqb d 34 (λ e. omega (arith, e, range.0, range.1)))) (inside_digits (d ∷ ds) h)

pub plain_decimal : (n : ℕ) → n < 2 ^ 64 → is_plain (decimal n) ≡ true
plain_decimal n small = let is = decimal_is_IsNumeral n small in plain_digits (decimal n) is.0.0 is.0.1

positive : (most n : ℕ) (ds : Text) → 0 < length ds → AllDigits 10 ds → natural most ds ≡ Some n → integer most ds ≡ Some (pos n)
unfolding integer
positive most n [] some h is = absurd (omega arith)
positive most n (d ∷ ds) some h is =
    let range = digit_from_value d h.0 in
    ap (λ (t : Bool). if t then option_map (λ n. neg_ℤ (pos n)) (natural (suc most) ds) else option_map pos (natural most (d ∷ ds))) (ne_eqb d 45 (λ e. omega (arith, e, range.0, range.1)))
    ∙ ap (option_map pos) is

-- the number is from - (most + 1) to most
abbrev pub Within : ℕ → ℤ → Type 0
Within most (pos n) = n ≤ most
Within most (negsuc n) = n ≤ most

pub integer_decimal : (most : ℕ) (z : ℤ) → most < 2 ^ 63 → Within most z → integer most (signed_decimal z) ≡ Some z
unfolding integer
integer_decimal most (pos n) small le =
    let is = decimal_is_IsNumeral n (omega arith) in
    positive most n (decimal n) is.0.0 is.0.1 (natural_decimal most n le (omega arith))
integer_decimal most (negsuc n) small le = ap (option_map (λ n. neg_ℤ (pos n))) (natural_decimal (suc most) (suc n) (omega arith) (omega arith))

pub plain_signed : (z : ℤ) (most : ℕ) → most < 2 ^ 63 → Within most z → is_plain (signed_decimal z) ≡ true
plain_signed (pos n) most small le = plain_decimal n (omega arith)
plain_signed (negsuc n) most small le =
    let is = decimal_is_IsNumeral (suc n) (omega arith) in inside_digits (decimal (suc n)) is.0.1

key_digits : (ds : Text) → AllDigits 10 ds → list_all is_key_byte ds ≡ true
key_digits [] h = refl
key_digits (d ∷ ds) h =
    let range = digit_from_value d h.0 in
    and_from (is_key_byte d) (list_all is_key_byte ds) (ap not (ne_eqb d 58 (λ e. omega (arith, e, range.0, range.1)))) (key_digits ds h.1)

-- a number has no colon
pub key_signed : (z : ℤ) (most : ℕ) → most < 2 ^ 63 → Within most z → list_all is_key_byte (signed_decimal z) ≡ true
key_signed (pos n) most small le = key_digits (decimal n) (decimal_is_IsNumeral n (omega arith)).0.1
key_signed (negsuc n) most small le = key_digits (decimal (suc n)) (decimal_is_IsNumeral (suc n) (omega arith)).0.1
