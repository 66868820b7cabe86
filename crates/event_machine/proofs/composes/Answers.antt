use Rattle.event_machine.specs.Laws.{equivalent_trans}
use Rattle.event_machine.proofs.composes.Goals as goal

pub returns : goal.returns
returns g c = λ is_broken first second third s t u p q. equivalent_trans is_broken first second third s t u p q
