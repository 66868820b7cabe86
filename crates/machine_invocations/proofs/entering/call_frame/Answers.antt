use Rattle.machine_invocations.proofs.Entered.{beginning_is}
use Rattle.machine_invocations.proofs.entering.call_frame.Goals as goal

pub returns : goal.returns
returns c =
    beginning_is c.args.method c.args.entry c.args.given.now c.args.purpose c.in_ok-operands.operands c.in_ok-locals.locals c.in_ok-operands.ensures.room c.in_ok-operands.ensures.empty c.in_ok-locals.ensures
