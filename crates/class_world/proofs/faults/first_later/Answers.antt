use Rattle.std.specs.Prelude.{◌≡◌, length, true}
use Rattle.std.proofs.Common.{subst, arith}
use Rattle.class_world.specs.First.{IsBefore, IsFirst, is_later}
use Rattle.class_world.proofs.Firsts.{counted_step}
use Rattle.class_world.proofs.faults.first_later.Goals as goal

pub loop-place-preserved : goal.loop-place-preserved
loop-place-preserved c = record {
  first = counted_step c.args.heads.now (is_later c.args.heads.now) c.loop-place.place c.loop-place.best _ c.is_later-later.result c.loop-place.invariant.first c.is_later-later.ensures c.better-best.ensures.best;
  within = c.better-best.ensures.within;
}

pub returns : goal.returns
returns c =
    let end : c.loop-place.place ≡ length c.args.heads.now = omega arith in
    subst (λ n. IsFirst c.args.heads.now (IsBefore n) (λ place. is_later c.args.heads.now place ≡ true) c.loop-place.best) end c.loop-place.invariant.first
