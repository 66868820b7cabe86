use Rattle.std.proofs.Common.{◌∙◌, arith}
use Rattle.class_world.specs.First.{has_wrong_super_at}
use Rattle.class_world.proofs.Firsts.{counted_step, wrong_here}
use Rattle.class_world.proofs.faults.first_wrong.Goals as goal

pub loop-place-preserved : goal.loop-place-preserved
loop-place-preserved c = record {
  first = counted_step c.args.heads.now (has_wrong_super_at c.args.heads.now) c.loop-place.place c.loop-place.best _ c.has_wrong_super-wrong.result c.loop-place.invariant.first (c.has_wrong_super-wrong.ensures ∙ wrong_here c.args.heads.now c.loop-place.place c.index-heads-place.result (omega arith) c.index-heads-place.is) c.better-best.ensures.best;
  within = c.better-best.ensures.within;
}
