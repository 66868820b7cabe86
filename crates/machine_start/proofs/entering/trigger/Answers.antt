use Rattle.machine_start.proofs.Opened.{triggers}
use Rattle.machine_start.proofs.entering.trigger.Goals as goal

pub returns-clause-ok : goal.returns-clause-ok
returns-clause-ok c callee sees =
    triggers c.args.world.now c.args.state.now c.begin.new.state c.declaring_class-class.result.0 callee c.in_ok-_pending._pending (c.declaring_class-class.ensures.class callee sees) c.in_ok-_pending.ensures.begun
