use Rattle.machine_frames.proofs.Steps.{pushed_int}
use Rattle.machine_frames.proofs.operands.push_int.Goals as goal

pub returns-clause-within : goal.returns-clause-within
returns-clause-within c = search pushed_int
