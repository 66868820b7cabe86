use Rattle.machine_code.specs.CodeLaws.{name_is}
use Rattle.machine_code.proofs.laws.first_is_named.Goals as goal

pub returns : goal.returns
returns c = name_is
