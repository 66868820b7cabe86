use Rattle.aj_names.proofs.Whole.{field_found, field_only, field_faults}
use Rattle.aj_names.proofs.types.FieldType.read.Goals as goal

pub returns-clause-found : goal.returns-clause-found
returns-clause-found c = field_found c.args.text.now c.read_field.result c.read_field.ensures

pub returns-clause-only : goal.returns-clause-only
returns-clause-only c = field_only c.args.text.now c.read_field.result c.read_field.ensures

pub returns-clause-fault : goal.returns-clause-fault
returns-clause-fault c = field_faults c.args.text.now c.read_field.result c.read_field.ensures
