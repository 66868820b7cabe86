use Rattle.aj_names.specs.Reading.{type_at, field_at}
use Rattle.aj_names.proofs.Scans.{behind_none}
use Rattle.aj_names.proofs.descriptors.spelled_type_at.Goals as goal

pub loop-rest-init : goal.loop-rest-init
unfolding field_at
loop-rest-init c = behind_none (type_at 255 c.args.bytes.now)
