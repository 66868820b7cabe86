use Rattle.std.proofs.Common.{ap}
use Rattle.machine_values.specs.declared.state.MachineState.{MachineState}
use Rattle.machine_values.specs.Things.{Things}
use Rattle.machine_rules.specs.Library.{HasLibrary}
use Rattle.machine_rules.proofs.RuledWork.{whole_still}
use Rattle.machine_works.proofs.Kept.{keeps_equal, on_any}
use Rattle.machine_returns.proofs.Brought.{formed_two, text_given, text_refused, result_settled}
use Rattle.machine_returns.proofs.returning.give_text.Goals as goal

pub resume-requires-clause-library : goal.resume-requires-clause-library
unfolding HasLibrary
resume-requires-clause-library c = c.requires.runnable.library

pub returns-in_err-work-clause-err : goal.returns-in_err-work-clause-err
returns-in_err-work-clause-err c =
    let old = c.args.state.now in
    on_any c.from_residual.result (keeps_equal c.args.world.now old _ (ap (λ (h : Things). let now : MachineState = record old { heap = h } in now) c.in_err-work.ensures.err))

pub end_call-requires-clause-formed : goal.end_call-requires-clause-formed
end_call-requires-clause-formed c = formed_two c.args.world.now c.args.state.now c.resume.new.heap c.pop.new.self c.leave.new.monitors c.in-Some.frame c.in-Some.ensures.items c.leave.ensures c.requires.formed

pub end_call-requires-clause-settled : goal.end_call-requires-clause-settled
unfolding HasLibrary
end_call-requires-clause-settled c =
    result_settled c.args.world.now c.args.state.now c.resume.new.heap c.pop.new.self c.leave.new.monitors c.in-Some.frame c.in-Some.ensures.items c.leave.ensures
    c.args.wait c.args.text c.in_ok-work.work c.resume.ensures.names c.in_ok-work.ensures.work
    (whole_still c.args.world.now c.args.state.now.heap c.resume.new.heap c.requires.runnable.library c.in_ok-work.ensures.filled)
    c.requires.there c.in-Results.said c.in-Results.value c.in-Results.is

pub returns-in-Results-clause-moves : goal.returns-in-Results-clause-moves
unfolding HasLibrary
returns-in-Results-clause-moves c =
    text_given c.args.world.now c.args.state.now c.resume.new.heap c.pop.new.self c.leave.new.monitors c.in-Some.frame c.in-Some.ensures.items c.leave.ensures
    c.args.wait c.args.text c.in_ok-work.work c.resume.ensures.names c.in_ok-work.ensures.work
    (whole_still c.args.world.now c.args.state.now.heap c.resume.new.heap c.requires.runnable.library c.in_ok-work.ensures.filled)
    c.in-Results.said c.in-Results.value c.end_call.new.state c.end_call.result c.in-Results.is c.requires.waiting c.end_call.ensures.moves

pub returns-clause-moves : goal.returns-clause-moves
unfolding HasLibrary
returns-clause-moves c =
    let new : MachineState = record c.args.state.now { heap = c.resume.new.heap; frames = c.pop.new.self; monitors = c.leave.new.monitors } in
    text_refused c.args.world.now c.args.state.now c.resume.new.heap c.pop.new.self c.leave.new.monitors c.in-Some.frame c.in-Some.ensures.items c.leave.ensures
    c.args.wait c.args.text c.in_ok-work.work c.resume.ensures.names c.in_ok-work.ensures.work
    (whole_still c.args.world.now c.args.state.now.heap c.resume.new.heap c.requires.runnable.library c.in_ok-work.ensures.filled)
    new c.in_default-work.not-Results c.requires.waiting
