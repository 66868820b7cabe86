-- Printed numbers.
use Rattle.std.proofs.Common.{◌≡◌, ℕ, zero, suc, ◌+◌, ◌^◌, ◌<◌, ◌≤◌, ◌/◌, ◌%◌, ◌-◌, Bool, List, [], ◌∷◌, ◌++◌, refl, sym, ap, ◌∙◌, arith, append_assoc}
use Rattle.std.specs.Prelude.{ℤ, pos, negsuc, if◌then◌else◌}
use Rattle.std.specs.Fmt as fmt
use Rattle.std.proofs.lemmas.Bool.{lt-ltb, le-ltb}
use Rattle.std.proofs.lemmas.Fmt.{AppendsLastDigit, decimal_from_appends, length-decimal-le}
use lib.Signed.{mag}
use Rattle.class_machine.specs.Numbers.{digit, digits, decimal}

one_digit : (k n : ℕ) → n < 10 → digits 10 (suc k) n ≡ (48 + n) ∷ []
one_digit k n lt =
    ap (λ (t : Bool). if t then digit n ∷ [] else digits 10 k (n / 10) ++ digit (n % 10) ∷ []) (lt-ltb n 10 lt)
    ∙ ap (λ (t : Bool). (if t then 48 + n else 87 + n) ∷ []) (lt-ltb n 10 lt)

more_digits : (k n : ℕ) → 10 ≤ n → digits 10 (suc k) n ≡ digits 10 k (n / 10) ++ ((48 + n % 10) ∷ [])
more_digits k n le =
    ap (λ (t : Bool). if t then digit n ∷ [] else digits 10 k (n / 10) ++ digit (n % 10) ∷ []) (le-ltb n 10 le)
    ∙ ap (λ (t : Bool). digits 10 k (n / 10) ++ (if t then 48 + n % 10 else 87 + n % 10) ∷ []) (lt-ltb (n % 10) 10 (omega arith))

appends : AppendsLastDigit (digits 10)
appends = record { one = one_digit; more = more_digits }

same_natural : (n : ℕ) → n < 2 ^ 64 → fmt.decimal n ≡ decimal (pos n)
same_natural n lt = sym (decimal_from_appends (digits 10) appends 20 n lt (length-decimal-le 20 n (omega arith) (omega arith) lt))

pub same_integer : (z : ℤ) → mag z < 2 ^ 63 → fmt.signed_decimal z ≡ decimal z
same_integer (pos n) lt = same_natural n (omega arith)
same_integer (negsuc n) lt = ap (λ (ds : List ℕ). 45 ∷ ds) (same_natural (suc n) (omega arith))

-- ---- digits to any base

pub no_digits : (base most n : ℕ) → most ≡ 0 → digits base most n ≡ []
no_digits base zero n none = refl
no_digits base (suc most) n none = absurd (omega arith)

pub last_digit : (base most n : ℕ) → 0 < most → n < base → digits base most n ≡ digit n ∷ []
last_digit base zero n some lt = absurd (omega arith)
last_digit base (suc most) n some lt = ap (λ (t : Bool). if t then digit n ∷ [] else digits base most (n / base) ++ digit (n % base) ∷ []) (lt-ltb n base lt)

-- all digits but the last, and then that
pub digits_before : (base most n : ℕ) → 0 < most → base ≤ n → digits base most n ≡ digits base (most - 1) (n / base) ++ digit (n % base) ∷ []
digits_before base zero n some le = absurd (omega arith)
digits_before base (suc most) n some le =
    let e : most ≡ suc most - 1 = omega arith in
    ap (λ (t : Bool). if t then digit n ∷ [] else digits base most (n / base) ++ digit (n % base) ∷ []) (le-ltb n base le)
    ∙ ap (λ (m : ℕ). digits base m (n / base) ++ digit (n % base) ∷ []) e

-- one text behind another
pub joined : (old mid new a b : List ℕ) → mid ≡ old ++ a → new ≡ mid ++ b → new ≡ old ++ (a ++ b)
joined old mid new a b p q = q ∙ ap (λ (l : List ℕ). l ++ b) p ∙ append_assoc old a b
