use Rattle.class_lines.proofs.FormRead.{given_form}
use Rattle.class_lines.proofs.reading.read_line.Goals as goal

pub returns-clause-form : goal.returns-clause-form
returns-clause-form c = given_form c.read.result c.args.line.now c.read.ensures
