use Rattle.std.proofs.Common.{◌-◌, length}
use Rattle.code_layout.proofs.Walking.{Walked}
use Rattle.code_layout.proofs.walk.walk_code.Given as goal

-- what was walked
abbrev pub invariant-loop-pc : goal.invariant-loop-pc
invariant-loop-pc l = Walked l.code l.pc l.found.steps.items l.found.numbers.items

abbrev pub decreases-loop-pc : goal.decreases-loop-pc
decreases-loop-pc l = length l.code - l.pc
