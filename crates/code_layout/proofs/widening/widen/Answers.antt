use Rattle.std.proofs.Common.{arith}
use Rattle.code_layout.specs.Spelled.{place_in}
use Rattle.code_layout.proofs.Rounds.{widen_more}
use Rattle.code_layout.proofs.widening.widen.Goals as goal

pub loop-i-preserved : goal.loop-i-preserved
loop-i-preserved c =
    widen_more (place_in c.args.places.now) c.loop-i.i c.args.rows.now c.args.wide.now c.loop-i.next.items _ c.index-rows-i.result _ (omega arith) c.index-rows-i.is c.loop-i.invariant c.is_wide.ensures c.in_ok-push.ensures.items
