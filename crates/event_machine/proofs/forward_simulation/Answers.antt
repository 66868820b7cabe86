use Rattle.event_machine.specs.Laws.{simulated_pairs}
use Rattle.event_machine.proofs.forward_simulation.Goals as goal

pub returns : goal.returns
returns g c = λ is_broken first second left right rank follows p. simulated_pairs is_broken first second left right rank follows p
