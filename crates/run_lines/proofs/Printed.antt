-- Printed numbers and lists of values.
use Rattle.std.proofs.Common.{◌≡◌, ℕ, zero, suc, ◌+◌, ◌^◌, ◌<◌, ◌≤◌, ◌/◌, ◌%◌, ◌-◌, Bool, List, [], ◌∷◌, ◌++◌, refl, sym, ap, ◌∙◌, length, take, take_all, map, arith, append_assoc}
use Rattle.std.specs.Prelude.{ℤ, pos, negsuc, if◌then◌else◌, codes}
use Rattle.std.specs.List.{flat_map}
use Rattle.std.specs.Fmt as fmt
use Rattle.std.proofs.lemmas.Bool.{lt-ltb, le-ltb}
use Rattle.std.proofs.lemmas.Fmt.{AppendsLastDigit, decimal_from_appends, length-decimal-le}
use Rattle.std.proofs.lemmas.List.{append-nil}
use lib.Signed.{mag}
use Rattle.class_machine.specs.Numbers.{digit, digits, decimal}
use Rattle.class_machine.specs.Lines.{fixed_digits, separated, value_text}
use Rattle.machine_values.specs.declared.observed.Shown.{Shown}
use Rattle.machine_values.specs.Observed.{machine_shown}

one_digit : (k n : ℕ) → n < 10 → digits 10 (suc k) n ≡ (48 + n) ∷ []
one_digit k n lt =
    ap (λ (t : Bool). if t then digit n ∷ [] else digits 10 k (n / 10) ++ digit (n % 10) ∷ []) (lt-ltb n 10 lt)
    ∙ ap (λ (t : Bool). (if t then 48 + n else 87 + n) ∷ []) (lt-ltb n 10 lt)

more_digits : (k n : ℕ) → 10 ≤ n → digits 10 (suc k) n ≡ digits 10 k (n / 10) ++ ((48 + n % 10) ∷ [])
more_digits k n le =
    ap (λ (t : Bool). if t then digit n ∷ [] else digits 10 k (n / 10) ++ digit (n % 10) ∷ []) (le-ltb n 10 le)
    ∙ ap (λ (t : Bool). digits 10 k (n / 10) ++ (if t then 48 + n % 10 else 87 + n % 10) ∷ []) (lt-ltb (n % 10) 10 (omega arith))

appends : AppendsLastDigit (digits 10)
appends = record { one = one_digit; more = more_digits }

pub same_natural : (n : ℕ) → n < 2 ^ 64 → fmt.decimal n ≡ decimal (pos n)
same_natural n lt = sym (decimal_from_appends (digits 10) appends 20 n lt (length-decimal-le 20 n (omega arith) (omega arith) lt))

pub same_integer : (z : ℤ) → mag z < 2 ^ 63 → fmt.signed_decimal z ≡ decimal z
same_integer (pos n) lt = same_natural n (omega arith)
same_integer (negsuc n) lt = ap (λ (ds : List ℕ). 45 ∷ ds) (same_natural (suc n) (omega arith))

-- all digits but the last, and then that
pub fixed_more : (count n : ℕ) → 0 < count → fixed_digits count n ≡ fixed_digits (count - 1) (n / 16) ++ digit (n % 16) ∷ []
fixed_more zero n some = absurd (omega arith)
fixed_more (suc count) n some = let e : count ≡ suc count - 1 = omega arith in ap (λ (c : ℕ). fixed_digits c (n / 16) ++ digit (n % 16) ∷ []) e

pub fixed_none : (count n : ℕ) → count ≡ 0 → fixed_digits count n ≡ []
fixed_none zero n none = refl
fixed_none (suc count) n none = absurd (omega arith)

-- a text behind a comma and a blank
abbrev pub behind_comma : List ℕ → List ℕ
behind_comma text = codes ", " ++ text

pub separated_first : (text : List ℕ) (texts : List (List ℕ)) → separated (text ∷ texts) ≡ text ++ flat_map behind_comma texts
separated_first text [] = sym (append-nil text)
separated_first text (next ∷ texts) =
    ap (λ (rest : List ℕ). (text ++ codes ", ") ++ rest) (separated_first next texts) ∙ append_assoc text (codes ", ") (next ++ flat_map behind_comma texts)

-- one text behind another
pub joined : (old mid new a b : List ℕ) → mid ≡ old ++ a → new ≡ mid ++ b → new ≡ old ++ (a ++ b)
joined old mid new a b p q = q ∙ ap (λ (l : List ℕ). l ++ b) p ∙ append_assoc old a b

mapped : (f : List ℕ → List ℕ) (g : Shown → List ℕ) (vs : List Shown) → flat_map f (map g vs) ≡ flat_map (λ v. f (g v)) vs
mapped f g [] = refl
mapped f g (v ∷ vs) = ap (λ (l : List ℕ). f (g v) ++ l) (mapped f g vs)

mapped_twice : (vs : List Shown) → map value_text (map machine_shown vs) ≡ map (λ v. value_text (machine_shown v)) vs
mapped_twice [] = refl
mapped_twice (v ∷ vs) = ap (λ (l : List (List ℕ)). value_text (machine_shown v) ∷ l) (mapped_twice vs)

-- what is put behind the first value
abbrev pub others_text : List Shown → List ℕ
others_text vs = flat_map (λ v. behind_comma (value_text (machine_shown v))) vs

pub all_values : (values others : List Shown) (first : Shown) (old mid new : List ℕ) (n : ℕ) → values ≡ first ∷ others → mid ≡ old ++ value_text (machine_shown first) → new ≡ mid ++ others_text (take n others) → length others ≤ n
    → new ≡ old ++ separated (map value_text (map machine_shown values))
all_values values others first old mid new n is p q le =
    joined old mid new (value_text (machine_shown first)) (others_text (take n others)) p q
    ∙ ap (λ (vs : List Shown). old ++ (value_text (machine_shown first) ++ others_text vs)) (take_all n others le)
    ∙ ap (λ (l : List ℕ). old ++ (value_text (machine_shown first) ++ l)) (sym (ap (λ (ts : List (List ℕ)). flat_map behind_comma ts) (mapped_twice others) ∙ mapped behind_comma (λ v. value_text (machine_shown v)) others))
    ∙ ap (λ (l : List ℕ). old ++ l) (sym (separated_first (value_text (machine_shown first)) (map value_text (map machine_shown others))))
    ∙ ap (λ (vs : List Shown). old ++ separated (map value_text (map machine_shown vs))) (sym is)
