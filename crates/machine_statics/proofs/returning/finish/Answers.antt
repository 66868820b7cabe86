use Rattle.machine_statics.proofs.Returned.{finished}
use Rattle.machine_statics.proofs.returning.finish.Goals as goal

pub returns-clause-moves : goal.returns-clause-moves
returns-clause-moves c super =
    finished c.args.world.now c.args.state.now c.leave_running-left.new.state super c.args.value c.in_ok-shown.shown c.leave_running-left.result c.leave_running-left.ensures.left c.requires.last c.in_ok-shown.ensures
