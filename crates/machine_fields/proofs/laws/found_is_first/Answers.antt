use Rattle.machine_fields.specs.FieldLaws.{found_is_first}
use Rattle.machine_fields.proofs.laws.found_is_first.Goals as goal

pub returns : goal.returns
returns c = found_is_first
