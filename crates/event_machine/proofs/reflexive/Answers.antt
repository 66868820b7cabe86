use Rattle.event_machine.specs.Laws.{equivalent_refl}
use Rattle.event_machine.proofs.reflexive.Goals as goal

pub returns : goal.returns
returns g c = λ is_broken step s. equivalent_refl is_broken step s
