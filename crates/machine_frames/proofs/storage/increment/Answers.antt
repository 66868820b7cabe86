use Rattle.std.proofs.Common.{refl}
use Rattle.machine_frames.proofs.storage.increment.Goals as goal

pub returns-then-write_local-clause-within : goal.returns-then-write_local-clause-within
returns-then-write_local-clause-within c = λ count h. c.write_local.ensures.within count h refl

pub returns-else-write_local-clause-within : goal.returns-else-write_local-clause-within
returns-else-write_local-clause-within c = λ count h. c.write_local.ensures.within count h refl
