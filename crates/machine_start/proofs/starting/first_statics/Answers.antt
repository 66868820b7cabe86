use Rattle.std.proofs.Common.{◌++◌, ℕ, ap, ◌∙◌}
use Rattle.std.specs.Prelude.{None, replicate}
use Rattle.machine_start.proofs.Opened.{statics_next}
use Rattle.machine_start.proofs.starting.first_statics.Goals as goal

pub loop-class-preserved : goal.loop-class-preserved
loop-class-preserved c =
    statics_next c.args.world.now.heads c.loop-class.class c.head-head.result.now c.loop-class.statics c.push_unset.new.statics c.head-head.ensures c.loop-class.invariant
    (c.in_ok-push_unset.ensures ∙ ap (λ (n : ℕ). c.loop-class.statics ++ replicate n None) c.len.ensures)
