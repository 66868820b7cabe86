-- The units of a text in modified UTF-8, one by one.
use Rattle.std.proofs.Common.{◌≡◌, ℕ, suc, ◌<◌, ◌≤◌, false, List, [], ◌∷◌, refl, arith}
use Rattle.std.specs.Prelude.{nat_lt}
use Rattle.std.proofs.lemmas.Bool.{lt-ltb, lt-leb}
use Rattle.class_lines.specs.Units.{unit_of_two, unit_of_three, units_of}

-- no less than n is not below it
pub not_below : (a n : ℕ) → n ≤ a → nat_lt a n ≡ false
not_below a n le = lt-leb (suc a) n (omega arith)

pub units_small : (a : ℕ) (rest : List ℕ) → a < 128 → units_of (a ∷ rest) ≡ a ∷ units_of rest
units_small a [] lt = refl
units_small a (b ∷ []) lt = rw (lt-ltb a 128 lt) refl
units_small a (b ∷ c ∷ rest) lt = rw (lt-ltb a 128 lt) refl

pub units_two : (a b : ℕ) (rest : List ℕ) → 128 ≤ a → a < 224 → units_of (a ∷ b ∷ rest) ≡ unit_of_two a b ∷ units_of rest
units_two a b [] le lt = rw (not_below a 128 le) refl
units_two a b (c ∷ rest) le lt = rw (not_below a 128 le, lt-ltb a 224 lt) refl

pub units_three : (a b c : ℕ) (rest : List ℕ) → 224 ≤ a → units_of (a ∷ b ∷ c ∷ rest) ≡ unit_of_three a b c ∷ units_of rest
units_three a b c rest le = rw (not_below a 128 (omega arith), not_below a 224 le) refl

-- what is cut short
pub units_cut : (a b : ℕ) → 128 ≤ a → units_of (a ∷ b ∷ []) ≡ unit_of_two a b ∷ []
units_cut a b le = rw (not_below a 128 le) refl
