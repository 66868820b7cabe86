use Rattle.std.proofs.Common.{refl}
use Rattle.machine_steps.proofs.Dropping.{none_dropped, one_dropped}
use Rattle.machine_steps.specs.Dropped.{formed_dropped}
use Rattle.machine_statics.proofs.returning.leave_running.Goals as goal

pub returns-clause-left : goal.returns-clause-left
returns-clause-left c = record {
  frame = c.in-Some.frame;
  split = c.in-Some.ensures.items;
  drops = one_dropped c.args.state.now c.args.state.now _ c.in-Some.frame (none_dropped c.args.state.now) c.in-Some.ensures.items refl c.leave.ensures;
}

pub returns-clause-formed : goal.returns-clause-formed
returns-clause-formed c k formed =
    formed_dropped k c.args.state.now _ _ (one_dropped c.args.state.now c.args.state.now _ c.in-Some.frame (none_dropped c.args.state.now) c.in-Some.ensures.items refl c.leave.ensures) formed
