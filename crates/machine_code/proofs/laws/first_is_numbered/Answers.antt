use Rattle.machine_code.specs.FirstLaws.{first_is_numbered}
use Rattle.machine_code.proofs.laws.first_is_numbered.Goals as goal

pub returns : goal.returns
returns c = first_is_numbered
