use Rattle.machine_frames.proofs.Arguments.{Taking}
use Rattle.machine_frames.proofs.calls.pop_arguments.Given as goal

abbrev pub invariant-taking : goal.invariant-taking
invariant-taking l = Taking l.kinds l.fn.operands l.left l.arguments.items l.operands

abbrev pub decreases-taking : goal.decreases-taking
decreases-taking l = l.left
