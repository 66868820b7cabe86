use Rattle.std.proofs.Common.{arith, subst, sym}
use Rattle.std.specs.Prelude.{Option}
use Rattle.std.proofs.lemmas.Result.{IfOk-weaker}
use Rattle.machine_values.specs.declared.observed.Ending.TheVariants.{Broken}
use Rattle.machine_values.specs.declared.values.Value.{Value}
use Rattle.machine_steps.specs.declared.step.Step.TheVariants.{Ended}
use Rattle.machine_returns.specs.Returns.{MovesWithin}
use Rattle.machine_returns.proofs.Brought.{no_text}
use Rattle.machine_returns.proofs.returning.leave_within.Goals as goal

pub returns-in-Some-clause-moves : goal.returns-in-Some-clause-moves
returns-in-Some-clause-moves c =
    IfOk-weaker c.give_text.result _ _ (λ step moves. subst (λ (v : Option Value). MovesWithin c.args.world.now c.args.state.now c.give_text.new.state step c.args.wait v) (sym c.in-Some.is) moves) c.give_text.ensures.moves

pub returns-in-None-clause-moves : goal.returns-in-None-clause-moves
returns-in-None-clause-moves c =
    let old = c.args.state.now in
    subst (λ (v : Option Value). MovesWithin c.args.world.now old old (Ended Broken) c.args.wait v) (sym c.in-None.is)
    (no_text c.args.world.now old old c.args.wait (omega (arith, old.frames.ok.0, c.if-count-lt2.false)))
