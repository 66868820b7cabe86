use Rattle.std.proofs.Common.{◌-◌, arith}
use Rattle.class_rules.proofs.FormsAt.{got_at}
use Rattle.class_rules.proofs.forms.form_at.Goals as goal

pub returns-else-index-eq0 : goal.returns-else-index-eq0
returns-else-index-eq0 c = got_at c.args.forms.now c.args.index (c.from.result - 1) c.get.result c.if-index-eq0.false (omega arith) c.get.ensures.lookup
