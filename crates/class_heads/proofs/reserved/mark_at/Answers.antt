use Rattle.std.proofs.Common.{arith, ◌∙◌}
use Rattle.class_heads.proofs.Marking.{got_at}
use Rattle.class_heads.proofs.reserved.mark_at.Goals as goal

pub returns-else-index-eq0 : goal.returns-else-index-eq0
returns-else-index-eq0 c = c.at.ensures ∙ got_at c.args.marks.now c.args.index c.from.result c.if-index-eq0.false (omega arith)
