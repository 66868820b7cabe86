use Rattle.machine_frames.proofs.Known.{still_known}
use Rattle.machine_frames.proofs.arithmetic.compare_long.Goals as goal

pub returns-clause-within : goal.returns-clause-within
returns-clause-within c = search still_known
