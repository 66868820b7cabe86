use Rattle.std.proofs.Common.{sym, subst}
use Rattle.machine_requests.specs.declared.reply.Reply.{Reply}
use Rattle.machine_values.specs.declared.observed.Ending.TheVariants.{Broken}
use Rattle.machine_steps.specs.declared.step.Step.TheVariants.{Ended}
use Rattle.machine_objects.specs.Making.{FollowsNew}
use Rattle.machine_objects.proofs.Made.{new_given, new_other}
use Rattle.machine_objects.proofs.going.give_new.Goals as goal

pub returns-in_default-clause-follows : goal.returns-in_default-clause-follows
returns-in_default-clause-follows c vs = new_other c.args.world.now c.args.state.now c.args.state.now (Ended Broken) vs c.args.reply c.in_default.not-Gives

pub returns-clause-follows : goal.returns-clause-follows
returns-clause-follows c vs =
    subst (λ (r : Reply). FollowsNew c.args.world.now c.args.state.now c.give_next.new.state c.give_next.result r vs) (sym c.in-Gives.is)
    (new_given c.args.world.now c.args.state.now c.give_next.new.state c.give_next.result vs c.in-Gives.value c.give_next.ensures.moves)
