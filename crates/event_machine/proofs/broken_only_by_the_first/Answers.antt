use Rattle.event_machine.specs.Laws.{broken_back, equivalent_sym}
use Rattle.event_machine.proofs.broken_only_by_the_first.Goals as goal

pub returns-clause-broken : goal.returns-clause-broken
returns-clause-broken g c = λ is_broken first second s t p n b. broken_back is_broken first second s t p n b

pub returns-clause-reversed : goal.returns-clause-reversed
returns-clause-reversed g c = λ is_broken first second s t p sound. equivalent_sym is_broken first second s t p sound
