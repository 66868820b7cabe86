use Rattle.event_machine.specs.Laws.{equivalent_pointwise}
use Rattle.event_machine.proofs.pointwise.Goals as goal

pub returns : goal.returns
returns g c = λ is_broken first second same s. equivalent_pointwise is_broken first second same s
