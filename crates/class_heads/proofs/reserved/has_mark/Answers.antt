use Rattle.std.proofs.Common.{◌∙◌, sym}
use Rattle.class_heads.proofs.Marking.{skips}
use Rattle.class_heads.proofs.reserved.has_mark.Goals as goal

pub loop-i-preserved : goal.loop-i-preserved
loop-i-preserved c = skips c.args.text.now c.loop-i.i c.loop-i-test.true (sym c.starts_with.ensures.value ∙ c.if-starts_with.false) c.loop-i.invariant
