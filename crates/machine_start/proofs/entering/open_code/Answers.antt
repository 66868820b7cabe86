use Rattle.std.proofs.Common.{sym, ◌∙◌, subst}
use Rattle.std.proofs.lemmas.Bool.{leb-true}
use Rattle.std.proofs.lemmas.Result.{on_ok_weaker}
use Rattle.machine_values.specs.declared.frames.Frame.{Frame}
use Rattle.machine_values.specs.declared.observed.Ending.TheVariants.{Unresolved, Broken}
use Rattle.machine_values.specs.declared.state.Due.TheVariants.{Finally}
use Rattle.machine_values.specs.Stacks.{weight}
use Rattle.machine_steps.specs.Running.{HasCode}
use Rattle.machine_steps.specs.Runs.{IsMethod}
use Rattle.machine_invocations.specs.Entering.{PushesCall}
use Rattle.machine_invocations.proofs.Entered.{entered_formed}
use Rattle.machine_invocations.proofs.Locked.{seen_there}
use Rattle.machine_start.proofs.Opened.{due_formed, opened_codeless, opened_small, opened_code}
use Rattle.machine_start.proofs.entering.open_code.Goals as goal

pub returns-in_default-clause-ok : goal.returns-in_default-clause-ok
returns-in_default-clause-ok c callee sees =
    opened_codeless c.args.world.now c.args.state.now c.args.method callee sees c.args.given.now c.code_of_method.result c.in_ok-text.text c.code_of_method.ensures c.in_default.is (c.in_ok-text.ensures callee sees)

pub returns-in_default-clause-formed : goal.returns-in_default-clause-formed
returns-in_default-clause-formed c = due_formed c.args.world.now c.args.state.now (Finally (Unresolved c.in_ok-text.text)) c.requires.formed tt

pub returns-then-not-fits-clause-ok : goal.returns-then-not-fits-clause-ok
returns-then-not-fits-clause-ok c callee sees =
    opened_small c.args.world.now c.args.state.now c.args.method callee sees c.args.given.now c.in-Some.code c.entry-entry.result
    (subst (HasCode c.args.world.now c.args.method.0) c.in-Some.is c.code_of_method.ensures) (c.entry-entry.ensures callee.name) (sym c.if-not-fits.true ∙ c.fits.ensures)

pub returns-then-not-fits-clause-formed : goal.returns-then-not-fits-clause-formed
returns-then-not-fits-clause-formed c = due_formed c.args.world.now c.args.state.now (Finally Broken) c.requires.formed tt

pub call_frame-requires : goal.call_frame-requires
call_frame-requires c = leb-true (weight c.args.given.now) c.entry-entry.result.locals (sym c.fits.ensures ∙ c.if-not-fits.false)

pub trigger-requires-clause-formed : goal.trigger-requires-clause-formed
trigger-requires-clause-formed c =
    let k = c.args.world.now in
    let sees = seen_there k c.args.method.0 c.requires.method in
    entered_formed k c.args.state.now c.push_call.new.state _ _ c.in_ok-frame.frame (c.in_ok-push_call.ensures.ok _ sees)
    (subst (λ (f : Frame). IsMethod k f.method.0) (sym c.in_ok-frame.ensures) c.requires.method) c.requires.formed

pub returns-clause-ok : goal.returns-clause-ok
returns-clause-ok c =
    on_ok_weaker c.trigger.result (λ begins callee sees.
    opened_code c.args.world.now c.args.state.now c.args.method callee sees c.args.given.now c.in-Some.code c.entry-entry.result
    (subst (HasCode c.args.world.now c.args.method.0) c.in-Some.is c.code_of_method.ensures) (c.entry-entry.ensures callee.name) c.push_call.new.state c.trigger.new.state
    (leb-true (weight c.args.given.now) c.entry-entry.result.locals (sym c.fits.ensures ∙ c.if-not-fits.false)) c.requires.given
    (subst (PushesCall c.args.world.now c.args.state.now c.push_call.new.state callee _) c.in_ok-frame.ensures (c.in_ok-push_call.ensures.ok callee sees)) (begins callee sees)) c.trigger.ensures.ok
