-- The longest run of bytes that pass, and what stands behind it.
use Rattle.std.proofs.Common.{◌≡◌, ℕ, suc, ◌+◌, ◌≤◌, Bool, true, false, not, cond, ltb, List, [], ◌∷◌, length, take, drop, Option, Some, None, refl, ap, ◌∙◌, arith}
use Rattle.std.specs.Prelude.{if◌then◌else◌, unwrap_or}
use Rattle.std.specs.List.{position_or_len}
use Rattle.std.proofs.lemmas.Bool.{ltb-false}
use Rattle.std.proofs.lemmas.List.Sums.{prefix_len-le-length}
use Rattle.class_lines.specs.Fields.{run_of, behind_run}

run_step : (t : Bool) (b n : ℕ) (rest run : List ℕ) → run ≡ take n rest → (if t then b ∷ run else []) ≡ take (cond (not (not t)) (1 + n) 0) (b ∷ rest)
run_step true b n rest run e = let k : 1 + n ≡ suc n = omega arith in rw k (ap (λ (r : List ℕ). b ∷ r) e)
run_step false b n rest run e = refl

behind_step : (t : Bool) (b n : ℕ) (rest behind : List ℕ) → behind ≡ drop n rest → (if t then behind else b ∷ rest) ≡ drop (cond (not (not t)) (1 + n) 0) (b ∷ rest)
behind_step true b n rest behind e = let k : 1 + n ≡ suc n = omega arith in rw k e
behind_step false b n rest behind e = refl

pub run_is_front : (test : ℕ → Bool) (xs : List ℕ) → run_of test xs ≡ take (position_or_len (λ b. not (test b)) xs) xs
run_is_front test [] = refl
run_is_front test (b ∷ rest) = run_step (test b) b _ rest (run_of test rest) (run_is_front test rest)

pub behind_is_back : (test : ℕ → Bool) (xs : List ℕ) → behind_run test xs ≡ drop (position_or_len (λ b. not (test b)) xs) xs
behind_is_back test [] = refl
behind_is_back test (b ∷ rest) = behind_step (test b) b _ rest (behind_run test rest) (behind_is_back test rest)

whole_or_place : (n len : ℕ) → n ≤ len → unwrap_or (cond (ltb n len) (Some n) None) len ≡ n
whole_or_place n len le = elim (ltb n len) as (λ t. ltb n len ≡ t → unwrap_or (cond t (Some n) None) len ≡ n) [ true ↦ λ _. refl | false ↦ λ e. omega (arith, ltb-false n len e) ] refl

-- where the run ends
pub run_len : (test : ℕ → Bool) (xs : List ℕ) (found : Option ℕ)
    → found ≡ cond (ltb (position_or_len (λ b. not (test b)) xs) (length xs)) (Some (position_or_len (λ b. not (test b)) xs)) None
    → unwrap_or found (length xs) ≡ position_or_len (λ b. not (test b)) xs
run_len test xs found e =
    ap (λ (o : Option ℕ). unwrap_or o (length xs)) e ∙ whole_or_place (position_or_len (λ b. not (test b)) xs) (length xs) (prefix_len-le-length (λ b. not (not (test b))) xs)
