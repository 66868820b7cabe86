use Rattle.machine_frames.proofs.Fresh.{highest_next}
use Rattle.machine_frames.proofs.tokens.highest.Goals as goal

pub loop-held-preserved : goal.loop-held-preserved
loop-held-preserved c = highest_next _ _ _ _ _ _ c.loop-held-test.true c.loop-held.invariant c.number_of.ensures c.larger-most.ensures
