use Rattle.machine_fields.specs.FieldLaws.{first_field_named}
use Rattle.machine_fields.proofs.laws.first_field_named.Goals as goal

pub returns : goal.returns
returns c = first_field_named
