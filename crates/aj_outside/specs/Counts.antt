-- Counts of failures: numbers that never fall, and the answers that come where they rise.
use Rattle.std.specs.Prelude.{ℕ, ◌<◌, ◌≤◌}

-- the largest value of a count: one that stands there stays there
abbrev pub last_count : ℕ
last_count = 18446744073709551615

-- the count rose between these two moments
abbrev pub Rose : ℕ → ℕ → Type 0
Rose before now = before < now

-- This answer of a call comes exactly where the count rose in the call. A count that stands at its
-- largest value can't rise, so there alone the answer may come without a rise.
pub record ComesWithRise (answered : Type 0) (before now : ℕ) : Type 0 where
  pub later : before ≤ now
  pub risen : Rose before now → answered
  pub only : before < last_count → answered → Rose before now
