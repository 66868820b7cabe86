use Rattle.machine_code.specs.CodeLaws.{method_is}
use Rattle.machine_code.proofs.laws.first_is_found.Goals as goal

pub returns : goal.returns
returns c = method_is
