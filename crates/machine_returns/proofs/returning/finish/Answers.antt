use Rattle.machine_returns.proofs.Brought.{result_ends}
use Rattle.machine_returns.proofs.returning.finish.Goals as goal

pub returns-clause-moves : goal.returns-clause-moves
returns-clause-moves c =
    result_ends c.args.world.now c.args.state.now c.leave_running-left.new.state c.args.wait c.args.value c.in_ok-shown.shown c.leave_running-left.result c.leave_running-left.ensures.left c.requires.last c.in_ok-shown.ensures
