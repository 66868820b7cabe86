use Rattle.machine_fields.specs.FieldLaws.{fields_apart}
use Rattle.machine_fields.proofs.laws.fields_apart.Goals as goal

pub returns : goal.returns
returns c = fields_apart
