use Rattle.machine_frames.proofs.Steps.{store_known}
use Rattle.machine_frames.proofs.arrays.store_element.Goals as goal

pub returns-clause-known : goal.returns-clause-known
returns-clause-known c = store_known _ _ _ _ _ _ _ c.in-Some.ensures.known c.pop_kind.ensures.within c.pop_int.ensures.within c.in-Some-pop_reference.ensures.known
