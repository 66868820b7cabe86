use Rattle.machine_code.specs.FirstLaws.{selected_is_first}
use Rattle.machine_code.proofs.laws.selected_is_first.Goals as goal

pub returns : goal.returns
returns c = selected_is_first
