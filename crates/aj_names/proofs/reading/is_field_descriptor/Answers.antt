use Rattle.aj_names.proofs.Whole.{field_decided_by}
use Rattle.aj_names.proofs.reading.is_field_descriptor.Goals as goal

pub returns : goal.returns
returns c = field_decided_by c.args.text.now c.spelled_type.result c.is_ok.result c.spelled_type.ensures c.is_ok.ensures.value
