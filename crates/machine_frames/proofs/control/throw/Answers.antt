use Rattle.machine_frames.proofs.Steps.{throw_known}
use Rattle.machine_frames.proofs.control.throw.Goals as goal

pub returns-in-Some-object-clause-known : goal.returns-in-Some-object-clause-known
returns-in-Some-object-clause-known c = throw_known _ _ _ c.in-Some.ensures.known c.in-Some-object.is
