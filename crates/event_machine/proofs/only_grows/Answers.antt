use Rattle.std.proofs.Common.{[]}
use Rattle.event_machine.specs.Laws.{grows}
use Rattle.event_machine.proofs.only_grows.Goals as goal

pub returns : goal.returns
returns g c = λ step s n m le. grows step n m le s []
