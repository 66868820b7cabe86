use Rattle.machine_code.specs.FirstLaws.{declared_is_first}
use Rattle.machine_code.proofs.laws.declared_is_first.Goals as goal

pub returns : goal.returns
returns c = declared_is_first
