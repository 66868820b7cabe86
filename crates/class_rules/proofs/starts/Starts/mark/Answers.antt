use Rattle.std.proofs.Common.{◌∙◌}
use Rattle.std.proofs.lemmas.List.{length-set}
use Rattle.class_rules.proofs.Marking.{marked_more}
use Rattle.class_rules.proofs.starts.Starts.mark.Goals as goal

pub loop-placed-preserved : goal.loop-placed-preserved
loop-placed-preserved c = record {
  long = length-set _ _ _ ∙ c.loop-placed.invariant.long;
  marked = marked_more c.loop-placed.marks.items c.args.insns.now c.args.length c.loop-placed.placed-index _ c.loop-placed-test.true c.requires c.loop-placed.invariant.long c.loop-placed.invariant.marked;
}
