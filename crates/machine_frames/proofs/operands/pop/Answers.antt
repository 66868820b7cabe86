use Rattle.machine_frames.proofs.Undone.{taken_some}
use Rattle.machine_frames.proofs.operands.pop.Goals as goal

pub returns-clause-taken : goal.returns-clause-taken
returns-clause-taken c = taken_some c.pop.result c.args.operands.now c.pop.new.self c.pop.ensures.room c.pop.ensures.popped c.pop.ensures.fits
