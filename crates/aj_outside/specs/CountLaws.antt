-- What follows of counts and of the answers that come where they rise.
use Rattle.std.proofs.Common.{arith}
use Rattle.std.specs.Prelude.{◌≡◌, ℕ, ◌<◌, ◌≤◌}
use Rattle.aj_outside.specs.Counts.{Rose, ComesWithRise}

-- without the answer the count stood still
pub stood_still : (answered : Type 0) (before now : ℕ) → ComesWithRise answered before now → ¬ answered → now ≡ before
stood_still answered before now h n =
    let later : before ≤ now = h.later in
    let flat : (before < now) → ⊥ = λ rose. n (h.risen rose) in
    grind arith

-- a count that rose in a part of a run rose in the run
pub rose_within : (first before now last : ℕ) → first ≤ before → Rose before now → now ≤ last → Rose first last
rose_within first before now last h rose g = omega arith
