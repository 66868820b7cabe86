use Rattle.machine_frames.proofs.Steps.{pushed_long}
use Rattle.machine_frames.proofs.operands.push_long.Goals as goal

pub returns-clause-within : goal.returns-clause-within
returns-clause-within c = search pushed_long
