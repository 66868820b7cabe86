use Rattle.machine_frames.proofs.Sizing.{Sizing}
use Rattle.machine_frames.proofs.sizes.pop_ints.Given as goal

abbrev pub invariant-taking : goal.invariant-taking
invariant-taking l = Sizing l.count l.fn.operands l.left l.sizes.items l.operands

abbrev pub decreases-taking : goal.decreases-taking
decreases-taking l = l.left
