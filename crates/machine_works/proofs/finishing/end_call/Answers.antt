use Rattle.std.proofs.Common.{sym, subst}
use Rattle.std.specs.Prelude.{Option}
use Rattle.machine_values.specs.declared.observed.Event.{Event}
use Rattle.machine_steps.specs.Moves.{Moves}
use Rattle.machine_works.specs.Finishing.{ends_call}
use Rattle.machine_works.proofs.Ended.{ends_silent, ends_telling}
use Rattle.machine_works.proofs.finishing.end_call.Goals as goal

pub returns-in-Some-clause-moves : goal.returns-in-Some-clause-moves
returns-in-Some-clause-moves c =
    let k = c.args.world.now in
    let old = c.args.state.now in
    subst (λ (said : Option Event). Moves k old c.tell.new.state c.tell.result (ends_call said c.args.super_call c.args.value old)) (sym c.in-Some.is)
    (ends_telling k old c.args.super_call c.args.value c.take_back-step.new.state c.tell.new.state c.take_back-step.result c.tell.result c.in-Some.event c.take_back-step.ensures.taken c.tell.ensures.tells)

pub returns-in-None-clause-moves : goal.returns-in-None-clause-moves
returns-in-None-clause-moves c =
    let k = c.args.world.now in
    let old = c.args.state.now in
    subst (λ (said : Option Event). Moves k old c.take_back-step.new.state c.take_back-step.result (ends_call said c.args.super_call c.args.value old)) (sym c.in-None.is)
    (ends_silent k old c.args.super_call c.args.value c.take_back-step.new.state c.take_back-step.result c.take_back-step.ensures.taken)
