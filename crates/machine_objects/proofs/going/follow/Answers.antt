use Rattle.std.specs.Prelude.{reverse}
use Rattle.std.proofs.Common.{sym, ◌∙◌, subst}
use Rattle.machine_steps.specs.Runs.{IsFormed}
use Rattle.machine_values.specs.declared.state.MachineState.{MachineState}
use Rattle.machine_objects.specs.Following.{Follows}
use Rattle.machine_objects.proofs.Back.{if_err, if_ok}
use Rattle.machine_objects.proofs.Taken.{still_formed}
use Rattle.machine_objects.proofs.Followed.{follows_gives, follows_done, follows_faults}
use Rattle.machine_requests.specs.declared.reply.Reply.{Reply}
use Rattle.machine_objects.proofs.going.follow.Goals as goal

pub returns-in-Gives-clause-moves : goal.returns-in-Gives-clause-moves
returns-in-Gives-clause-moves c =
    subst (λ (r : Reply). Follows c.args.world.now c.args.state.now c.give_next.new.state c.give_next.result r (reverse c.args.taken.now)) (sym c.in-Gives.is)
    (follows_gives c.args.world.now c.args.state.now c.give_next.new.state c.give_next.result (reverse c.args.taken.now) c.in-Gives.value c.give_next.ensures.moves)

pub fail-requires-clause-formed : goal.fail-requires-clause-formed
fail-requires-clause-formed c =
    let lacking = c.requires.lacking in
    subst (λ (s : MachineState). IsFormed c.args.world.now s) (sym (c.restore.ensures lacking.before lacking.from)) (still_formed c.args.world.now (reverse c.args.taken.now) lacking.before c.args.state.now lacking.from c.requires.formed)

pub returns-in-Done-clause-moves : goal.returns-in-Done-clause-moves
returns-in-Done-clause-moves c =
    subst (λ (r : Reply). Follows c.args.world.now c.args.state.now c.go_on_next.new.state c.go_on_next.result r (reverse c.args.taken.now)) (sym c.in-Done.is)
    (follows_done c.args.world.now c.args.state.now c.go_on_next.new.state c.go_on_next.result (reverse c.args.taken.now) c.go_on_next.ensures.moves)

pub returns-in-Faults-clause-moves : goal.returns-in-Faults-clause-moves
returns-in-Faults-clause-moves c =
    if_ok c.fail.result _ (λ step. Follows c.args.world.now c.args.state.now c.fail.new.state step c.args.reply (reverse c.args.taken.now))
    (λ step moves. subst (λ (r : Reply). Follows c.args.world.now c.args.state.now c.fail.new.state step r (reverse c.args.taken.now)) (sym c.in-Faults.is)
    (follows_faults c.args.world.now c.args.state.now c.fail.new.state step (reverse c.args.taken.now) c.restore.new.state c.in-Faults.fault c.restore.ensures moves)) c.fail.ensures.moves

pub returns-in-Faults-clause-err : goal.returns-in-Faults-clause-err
returns-in-Faults-clause-err c = if_err c.fail.result (λ same before from. same ∙ c.restore.ensures before from) c.fail.ensures.err
