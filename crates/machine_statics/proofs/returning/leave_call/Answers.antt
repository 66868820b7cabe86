use Rattle.std.proofs.Common.{◌≡◌, [], Bool, arith, subst}
use Rattle.std.specs.Bool.{MatchBool}
use Rattle.std.proofs.lemmas.Result.{IfOk-weaker}
use Rattle.machine_statics.specs.Returns.{LeavesRunning}
use Rattle.machine_statics.proofs.Returned.{back_below}
use Rattle.machine_statics.proofs.returning.leave_call.Goals as goal

pub returns-then-count-lt2-clause-moves : goal.returns-then-count-lt2-clause-moves
returns-then-count-lt2-clause-moves c = IfOk-weaker c.finish.result _ _ (λ step moves. moves c.args.super_call) c.finish.ensures.moves

pub returns-clause-moves : goal.returns-clause-moves
returns-clause-moves c =
    let old = c.args.state.now in
    let mid = c.leave_running.new.state in
    back_below c.args.world.now old mid c.take_back.new.state c.take_back.result c.own.result c.args.super_call c.args.value
    (subst (λ (b : Bool). MatchBool b (LeavesRunning old mid) (old.frames.items ≡ [])) c.if-not-leave_running.false c.leave_running.ensures.left)
    (omega (arith, old.frames.ok.0, c.if-count-lt2.false)) c.take_back.ensures.taken c.own.ensures.same
