use Rattle.std.proofs.Common.{◌∙◌, arith}
use Rattle.class_world.specs.First.{takes_reserved_at}
use Rattle.class_world.proofs.Firsts.{counted_step, takes_here}
use Rattle.class_world.proofs.faults.first_reserved.Goals as goal

pub loop-place-preserved : goal.loop-place-preserved
loop-place-preserved c = record {
  first = counted_step c.args.heads.now (takes_reserved_at c.args.woven c.args.files.now) c.loop-place.place c.loop-place.best _ c.in_ok-reserved.reserved c.loop-place.invariant.first (c.in_ok-reserved.ensures ∙ takes_here c.args.files.now c.args.woven c.loop-place.place c.index-files-place.result (omega arith) c.index-files-place.is) c.better-best.ensures.best;
  within = c.better-best.ensures.within;
}
