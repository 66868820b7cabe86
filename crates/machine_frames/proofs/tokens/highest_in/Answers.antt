use Rattle.machine_frames.proofs.Fresh.{highest_in_next}
use Rattle.machine_frames.proofs.tokens.highest_in.Goals as goal

pub loop-local-preserved : goal.loop-local-preserved
loop-local-preserved c = highest_in_next _ _ _ _ _ _ c.loop-local-test.true c.loop-local.invariant c.number_in.ensures c.larger-most.ensures
