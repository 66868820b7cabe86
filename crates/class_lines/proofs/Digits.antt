-- A number, digit by digit.
use Rattle.std.proofs.Common.{◌≡◌, ℕ, suc, zero, drop, get_or, drop-cons, ◌+◌, ◌*◌, ◌<◌, ◌≤◌, Bool, true, false, ◌&&◌, List, [], ◌∷◌, length, Option, Some, None, refl, sym, ap, ◌∙◌, arith, inl, inr}
use Rattle.std.specs.Prelude.{nat_le, nat_lt, if◌then◌else◌}
use Rattle.std.specs.List.{list_all}
use Rattle.std.specs.Char.{digit_value}
use Rattle.std.specs.Str.Parse.{digits_value, digits_value_after}
use Rattle.std.proofs.lemmas.Bool.{cases_Bool, le-leb, lt-leb, lt-ltb, leb-true, leb-false}
use Rattle.std.proofs.Math.Nat.{mul-le-mul_left}
use Rattle.class_lines.specs.Numbers.{is_digit, number}

-- the number with one more digit, if it is at most so much
abbrev pub one_more : ℕ → ℕ → ℕ → ℕ → Option ℕ
one_more radix most value digit = if is_digit radix digit && nat_le (value * radix + digit_value digit) most then Some (value * radix + digit_value digit) else None

abbrev pub and_on : (ℕ → Option ℕ) → Option ℕ → Option ℕ
and_on next None = None
and_on next (Some value) = next value

-- the number with these digits at its end
abbrev pub with_digits : ℕ → ℕ → ℕ → List ℕ → Option ℕ
with_digits radix most value [] = Some value
with_digits radix most value (d ∷ digits) = and_on (λ v. with_digits radix most v digits) (one_more radix most value d)

-- what is said at once
abbrev pub at_once : ℕ → ℕ → ℕ → List ℕ → Option ℕ
at_once radix most value digits = if list_all (is_digit radix) digits && nat_le (digits_value_after radix value digits) most then Some (digits_value_after radix value digits) else None

grows : (radix value : ℕ) (digits : List ℕ) → 1 ≤ radix → value ≤ digits_value_after radix value digits
grows radix value [] some = omega arith
grows radix value (d ∷ digits) some =
    let more = grows radix (value * radix + digit_value d) digits some in
    let times : value * 1 ≤ value * radix = mul-le-mul_left value some in
    omega (arith, more, times)

-- the rest of a fold, where this digit passed the test
passed : (radix most value d : ℕ) (digits : List ℕ) (rest : Option ℕ) → is_digit radix d ≡ true → nat_le (value * radix + digit_value d) most ≡ true
    → rest ≡ at_once radix most (value * radix + digit_value d) digits
    → and_on (λ v. with_digits radix most v digits) (one_more radix most value d) ≡ with_digits radix most (value * radix + digit_value d) digits
passed radix most value d digits rest digit fits e =
    ap (λ (t : Bool). and_on (λ v. with_digits radix most v digits) (if t && nat_le (value * radix + digit_value d) most then Some (value * radix + digit_value d) else None)) digit
    ∙ ap (λ (t : Bool). and_on (λ v. with_digits radix most v digits) (if t then Some (value * radix + digit_value d) else None)) fits

-- digit by digit the same is found as at once
pub once : (radix most value : ℕ) (digits : List ℕ) → 1 ≤ radix → value ≤ most → with_digits radix most value digits ≡ at_once radix most value digits
once radix most value [] some fits = sym (ap (λ (t : Bool). if t then Some value else None) (le-leb value most fits))
once radix most value (d ∷ digits) some fits =
    let v : ℕ = value * radix + digit_value d in
    let all : ℕ = digits_value_after radix v digits in
    elim (cases_Bool (is_digit radix d)) [
      | inr isnt ↦
          ap (λ (t : Bool). and_on (λ v. with_digits radix most v digits) (if t && nat_le v most then Some v else None)) isnt
          ∙ sym (ap (λ (t : Bool). if (t && list_all (is_digit radix) digits) && nat_le all most then Some all else None) isnt)
      | inl digit ↦ elim (cases_Bool (nat_le v most)) [
        | inl small ↦
            passed radix most value d digits _ digit small refl
            ∙ once radix most v digits some (leb-true v most small)
            ∙ sym (ap (λ (t : Bool). if (t && list_all (is_digit radix) digits) && nat_le all most then Some all else None) digit)
        | inr large ↦
            ap (λ (t : Bool). and_on (λ v. with_digits radix most v digits) (if t && nat_le v most then Some v else None)) digit
            ∙ ap (λ (t : Bool). and_on (λ v. with_digits radix most v digits) (if t then Some v else None)) large
            ∙ sym (ap (λ (t : Bool). if list_all (is_digit radix) (d ∷ digits) && t then Some all else None) (lt-leb all most (omega (arith, grows radix v digits some, leb-false v most large))) ∙ none_anyway (list_all (is_digit radix) (d ∷ digits)) all)
      ]
    ]
  where
    none_anyway : (t : Bool) (n : ℕ) → (if t && false then Some n else None) ≡ None
    none_anyway true n = refl
    none_anyway false n = refl

either : (t u : Bool) (n : ℕ) → (if u then Some n else None) ≡ None → (if t && u then Some n else None) ≡ None
either true u n h = h
either false u n h = refl

fails : (radix most : ℕ) (digits : List ℕ) → at_once radix most 0 digits ≡ None → number radix most digits ≡ None
unfolding number
fails radix most digits h = either (nat_lt 0 (length digits)) (list_all (is_digit radix) digits && nat_le (digits_value radix digits) most) (digits_value radix digits) h

finds : (radix most : ℕ) (digits : List ℕ) (value : ℕ) → 0 < length digits → at_once radix most 0 digits ≡ Some value → number radix most digits ≡ Some value
unfolding number
finds radix most digits value some h =
    ap (λ (t : Bool). if t && (list_all (is_digit radix) digits && nat_le (digits_value radix digits) most) then Some (digits_value radix digits) else None) (lt-ltb 0 (length digits) some) ∙ h

-- a digit that can't follow
pub number_fails : (radix most value i : ℕ) (digits : List ℕ) → 1 ≤ radix → i < length digits → with_digits radix most 0 digits ≡ with_digits radix most value (drop i digits) → one_more radix most value (get_or digits i 0) ≡ None → number radix most digits ≡ None
number_fails radix most value i digits some lt same none =
    fails radix most digits
    (sym (once radix most 0 digits some (omega arith)) ∙ same ∙ ap (with_digits radix most value) (drop-cons digits i 0 lt)
    ∙ ap (and_on (λ v. with_digits radix most v (drop (suc i) digits))) none)

nothing_left : (i : ℕ) (digits : List ℕ) → length digits ≤ i → drop i digits ≡ []
nothing_left i [] le = drop_nil i
  where
    drop_nil : (i : ℕ) → drop i (let l : List ℕ = [] in l) ≡ []
    drop_nil zero = refl
    drop_nil (suc i) = refl
nothing_left zero (d ∷ digits) le = absurd (omega arith)
nothing_left (suc i) (d ∷ digits) le = nothing_left i digits (omega arith)

-- the last digit was read
pub number_ends : (radix most value i : ℕ) (digits : List ℕ) → 1 ≤ radix → 0 < length digits → length digits ≤ i → with_digits radix most 0 digits ≡ with_digits radix most value (drop i digits) → number radix most digits ≡ Some value
number_ends radix most value i digits radix_some some le same =
    finds radix most digits value some (sym (once radix most 0 digits radix_some (omega arith)) ∙ same ∙ ap (with_digits radix most value) (nothing_left i digits le))
