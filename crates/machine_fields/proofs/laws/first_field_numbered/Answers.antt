use Rattle.machine_fields.specs.FieldLaws.{first_field_numbered}
use Rattle.machine_fields.proofs.laws.first_field_numbered.Goals as goal

pub returns : goal.returns
returns c = first_field_numbered
