use Rattle.code_layout.proofs.Rounds.{Rounds, narrow}
use Rattle.code_layout.proofs.widening.widened.Given as goal

-- the rounds so far
abbrev pub invariant-loop-found : goal.invariant-loop-found
invariant-loop-found l = Rounds l.rows l.wide.items l.found.items

-- how many rows are not wide
abbrev pub decreases-loop-found : goal.decreases-loop-found
decreases-loop-found l = narrow l.wide.items
