use Rattle.machine_code.specs.FirstLaws.{found_is_first}
use Rattle.machine_code.proofs.laws.found_is_first.Goals as goal

pub returns : goal.returns
returns c = found_is_first
