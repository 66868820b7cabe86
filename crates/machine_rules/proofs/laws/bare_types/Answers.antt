use Rattle.machine_rules.proofs.Bare.{bare_types}
use Rattle.machine_rules.proofs.laws.bare_types.Goals as goal

pub returns : goal.returns
returns c = bare_types
