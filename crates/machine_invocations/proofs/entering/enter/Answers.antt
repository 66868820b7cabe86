use Rattle.std.proofs.Common.{refl, sym, ◌∙◌, subst}
use Rattle.std.proofs.lemmas.Bool.{leb-true}
use Rattle.class_file.specs.Lookup.{reference_seen}
use Rattle.machine_values.specs.declared.frames.Frame.{Frame}
use Rattle.machine_values.specs.Stacks.{weight}
use Rattle.machine_steps.specs.Running.{HasCode}
use Rattle.machine_steps.specs.Runs.{IsMethod}
use Rattle.machine_invocations.specs.Entering.{PushesCall}
use Rattle.machine_invocations.proofs.Begun.{keeps_same, on_err}
use Rattle.machine_invocations.proofs.Locked.{seen_there}
use Rattle.machine_invocations.proofs.Entered.{unresolved, too_few, entered_moves, entered_formed, keeps_formed}
use Rattle.machine_invocations.proofs.entering.enter.Goals as goal

pub returns-in_err-name-clause-err : goal.returns-in_err-name-clause-err
returns-in_err-name-clause-err c = on_err c.from_residual.result (keeps_same c.args.world.now c.args.state.now c.args.state.now refl refl)

pub returns-in_default-clause-entered : goal.returns-in_default-clause-entered
returns-in_default-clause-entered c callee sees =
    unresolved c.args.world.now c.args.state.now c.args.method callee sees (reference_seen c.args.named) c.args.receiver c.args.given.now c.args.purpose c.args.state.now c.code_of_method.result c.in_ok-name.name
    c.code_of_method.ensures c.in_default.is (c.in_ok-name.ensures (reference_seen c.args.named).member.descriptor)

pub returns-then-not-fits-clause-entered : goal.returns-then-not-fits-clause-entered
returns-then-not-fits-clause-entered c callee sees =
    too_few c.args.world.now c.args.state.now c.args.method callee sees (reference_seen c.args.named) c.args.receiver c.args.given.now c.args.purpose c.in-Some.code c.entry-entry.result
    (subst (HasCode c.args.world.now c.args.method.0) c.in-Some.is c.code_of_method.ensures) (c.entry-entry.ensures callee.name) c.args.state.now (sym c.if-not-fits.true ∙ c.fits.ensures)

pub call_frame-requires : goal.call_frame-requires
call_frame-requires c = leb-true (weight c.args.given.now) c.entry-entry.result.locals (sym c.fits.ensures ∙ c.if-not-fits.false)

pub returns-in_err-frame-clause-err : goal.returns-in_err-frame-clause-err
returns-in_err-frame-clause-err c = on_err c.from_residual-in_err-frame.result (keeps_same c.args.world.now c.args.state.now c.args.state.now refl refl)

pub returns-in_err-push_call-clause-formed : goal.returns-in_err-push_call-clause-formed
returns-in_err-push_call-clause-formed c =
    let keeps = c.in_err-push_call.ensures.err in
    keeps_formed c.args.world.now c.args.state.now c.push_call.new.state keeps.frames keeps.due keeps.statics keeps.begun c.requires.formed

pub returns-in_err-push_call-clause-err : goal.returns-in_err-push_call-clause-err
returns-in_err-push_call-clause-err c = on_err c.from_residual-in_err-push_call.result c.in_err-push_call.ensures.err

pub returns-clause-entered : goal.returns-clause-entered
returns-clause-entered c callee sees =
    entered_moves c.args.world.now c.args.state.now c.args.method callee sees (reference_seen c.args.named) c.args.receiver c.args.given.now c.args.purpose c.in-Some.code c.entry-entry.result
    (subst (HasCode c.args.world.now c.args.method.0) c.in-Some.is c.code_of_method.ensures) (c.entry-entry.ensures callee.name) c.push_call.new.state
    (leb-true (weight c.args.given.now) c.entry-entry.result.locals (sym c.fits.ensures ∙ c.if-not-fits.false)) c.requires.given c.requires.purpose
    (subst (PushesCall c.args.world.now c.args.state.now c.push_call.new.state callee c.args.receiver) c.in_ok-frame.ensures (c.in_ok-push_call.ensures.ok callee sees))

pub returns-clause-formed : goal.returns-clause-formed
returns-clause-formed c =
    let k = c.args.world.now in
    let sees = seen_there k c.args.method.0 c.requires.method in
    entered_formed k c.args.state.now c.push_call.new.state _ c.args.receiver c.in_ok-frame.frame (c.in_ok-push_call.ensures.ok _ sees)
    (subst (λ (f : Frame). IsMethod k f.method.0) (sym c.in_ok-frame.ensures) c.requires.method) c.requires.formed

pub returns-in_err-name-clause-same : goal.returns-in_err-name-clause-same
returns-in_err-name-clause-same c = on_err c.from_residual.result (record { rest = refl; frames = refl })

pub returns-in_err-frame-clause-same : goal.returns-in_err-frame-clause-same
returns-in_err-frame-clause-same c = on_err c.from_residual-in_err-frame.result (record { rest = refl; frames = refl })

pub returns-in_err-push_call-clause-same : goal.returns-in_err-push_call-clause-same
returns-in_err-push_call-clause-same c = on_err c.from_residual-in_err-push_call.result c.in_err-push_call.ensures.same
