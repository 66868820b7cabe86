use Rattle.std.proofs.Common.{◌-◌, length}
use Rattle.class_listing.proofs.Walking.{Walked}
use Rattle.class_listing.proofs.walk.walk.Given as goal

-- what was walked
abbrev pub invariant-loop-pc : goal.invariant-loop-pc
invariant-loop-pc l = Walked l.code l.pc l.steps

abbrev pub decreases-loop-pc : goal.decreases-loop-pc
decreases-loop-pc l = length l.code - l.pc
