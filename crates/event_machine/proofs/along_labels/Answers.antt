use Rattle.event_machine.specs.Laws.{equivalent_relabel}
use Rattle.event_machine.proofs.along_labels.Goals as goal

pub returns : goal.returns
returns g c = λ is_broken label first second s t p. equivalent_relabel is_broken label first second s t p
