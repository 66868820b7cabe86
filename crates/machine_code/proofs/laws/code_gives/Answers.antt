use Rattle.machine_code.specs.CodeLaws.{code_gives}
use Rattle.machine_code.proofs.laws.code_gives.Goals as goal

pub returns : goal.returns
returns c = code_gives
