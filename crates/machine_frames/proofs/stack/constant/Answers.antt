use Rattle.machine_frames.proofs.Steps.{pushed_null, pushed_float, pushed_double}
use Rattle.machine_frames.proofs.stack.constant.Goals as goal

pub returns-in-Null-clause-within : goal.returns-in-Null-clause-within
returns-in-Null-clause-within c = search pushed_null

pub returns-in-Float-clause-within : goal.returns-in-Float-clause-within
returns-in-Float-clause-within c = search pushed_float

pub returns-in-Double-clause-within : goal.returns-in-Double-clause-within
returns-in-Double-clause-within c = search pushed_double
