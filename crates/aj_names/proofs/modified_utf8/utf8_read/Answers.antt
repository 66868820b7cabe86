use Rattle.aj_names.proofs.Texts.{only_text}
use Rattle.aj_names.proofs.modified_utf8.utf8_read.Goals as goal

pub returns-clause-only : goal.returns-clause-only
returns-clause-only c = only_text c.args.bytes.now c.read_units.result c.read_units.ensures.found c.read_units.ensures.fit c.read_units.ensures.fault
