use Rattle.std.specs.Prelude.{length}
use Rattle.std.proofs.Common.{sym, subst}
use Rattle.machine_values.specs.declared.state.MachineState.{MachineState}
use Rattle.machine_invocations.specs.Keeping.{Keeps}
use Rattle.machine_basics.specs.Replied.{IsSettledReply}
use Rattle.machine_basics.proofs.Kept.{both_ok, ok_under, both_err, if_err, keeps_fault}
use Rattle.machine_basics.proofs.Restored.{if_ok}
use Rattle.machine_basics.proofs.Answered.{asked_moves}
use Rattle.machine_basics.proofs.Spared.{asks_fault}
use Rattle.machine_basics.proofs.replies.ask.Goals as goal

pub returns-clause-moves : goal.returns-clause-moves
returns-clause-moves c =
    let old = c.args.state.now in
    let mid = c.reply_to.new.state in
    if_ok _ _ c.follow.result
    (λ step both. asked_moves c.args.world.now old mid c.follow.new.state c.args.request step c.in_ok-reply.reply c.in_ok-reply.ensures.replied both.0 both.1)
    (both_ok _ _ c.follow.result c.follow.ensures.refused (ok_under (IsSettledReply (length mid.heap.names) c.in_ok-reply.reply) _ c.follow.result c.follow.ensures.moves))

pub returns-clause-err : goal.returns-clause-err
returns-clause-err c =
    let k = c.args.world.now in
    let old = c.args.state.now in
    let mid = c.reply_to.new.state in
    if_err _ _ c.follow.result
    (λ both. subst (λ (s : MachineState). Keeps k old s) (sym both.1) (keeps_fault k old c.args.request mid c.in_ok-reply.reply c.in_ok-reply.ensures.replied both.0))
    (both_err _ _ c.follow.result c.follow.ensures.fault c.follow.ensures.err)

pub returns-clause-spared : goal.returns-clause-spared
returns-clause-spared c =
    if_err _ _ c.follow.result (asks_fault c.args.world.now c.args.state.now c.reply_to.new.state c.args.request c.in_ok-reply.reply c.in_ok-reply.ensures.replied) c.follow.ensures.fault
