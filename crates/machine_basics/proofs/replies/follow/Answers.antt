use Rattle.std.specs.Prelude.{length, IfOk, refl}
use Rattle.std.proofs.Common.{sym, subst}
use Rattle.machine_requests.specs.declared.reply.Reply.{Reply}
use Rattle.machine_steps.specs.declared.step.Step.{Step}
use Rattle.machine_steps.specs.Moves.{Moves}
use Rattle.machine_basics.specs.Replied.{IsSettledReply}
use Rattle.machine_basics.specs.Turns.{follows}
use Rattle.machine_basics.proofs.Restored.{if_ok}
use Rattle.machine_basics.proofs.replies.follow.Goals as goal

pub returns-in-Gives-clause-moves : goal.returns-in-Gives-clause-moves
returns-in-Gives-clause-moves c =
    subst (λ (r : Reply). IsSettledReply (length c.args.state.now.heap.names) r → Moves c.args.world.now c.args.state.now c.give_next.new.state c.give_next.result (follows c.args.state.now r)) (sym c.in-Gives.is) c.give_next.ensures.moves

pub returns-in-Done-clause-moves : goal.returns-in-Done-clause-moves
returns-in-Done-clause-moves c =
    subst (λ (r : Reply). IsSettledReply (length c.args.state.now.heap.names) r → Moves c.args.world.now c.args.state.now c.go_next.new.state c.go_next.result (follows c.args.state.now r)) (sym c.in-Done.is) (λ settled. c.go_next.ensures.moves)

pub returns-in-Faults-clause-moves : goal.returns-in-Faults-clause-moves
returns-in-Faults-clause-moves c =
    subst (λ (r : Reply). IsSettledReply (length c.args.state.now.heap.names) r → IfOk c.fail.result (λ (step : Step). Moves c.args.world.now c.args.state.now c.fail.new.state step (follows c.args.state.now r))) (sym c.in-Faults.is)
    (λ settled. if_ok _ _ c.fail.result (λ step moves m left t f below is runs same. moves m left t f below f.content is runs same refl) c.fail.ensures.moves)
