use Rattle.std.proofs.Common.{◌-◌, length}
use Rattle.before_weave.proofs.Walks.{Walked}
use Rattle.before_weave.proofs.code.weave_code.Given as goal

-- what was walked
abbrev pub invariant-loop-pc : goal.invariant-loop-pc
invariant-loop-pc l = Walked l.marks l.index l.code l.pc l.woven.bytes.items l.woven.advised

abbrev pub decreases-loop-pc : goal.decreases-loop-pc
decreases-loop-pc l = length l.code - l.pc
