use Rattle.std.specs.Prelude.{refl}
use Rattle.std.proofs.Common.{sym, ◌∙◌}
use Rattle.std.proofs.lemmas.Result.{IfOk-weaker}
use Rattle.class_file.specs.Lookup.{reference_seen}
use Rattle.class_machine.specs.ClassFiles.{invoked}
use Rattle.class_machine.specs.Operations.{Invoke}
use Rattle.machine_parts.specs.Taken.{leaves, executes_own, named_line, nothing_named}
use Rattle.machine_steps.specs.declared.step.Step.TheVariants.{NotMine}
use Rattle.machine_steps.specs.Parts.{Part}
use Rattle.machine_steps.specs.Runs.{answers_left}
use Rattle.machine_library.proofs.executing.call.Goals as goal

pub returns-in_default-clause-takes : goal.returns-in_default-clause-takes
returns-in_default-clause-takes c = λ bytes operation e stands.
    let left = answers_left c.args.script.now in
    nothing_named c.args.world.now c.args.state.now c.args.state.now left left NotMine Part.Library (Invoke c.args.mode) (invoked c.args.pool.now c.args.index c.args.mode) operation c.in_default.ensures e

pub returns-else-is_library_call-clause-takes : goal.returns-else-is_library_call-clause-takes
returns-else-is_library_call-clause-takes c = λ bytes operation e stands.
    let k = c.args.world.now in
    let old = c.args.state.now in
    let left = answers_left c.args.script.now in
    let r = reference_seen c.in-Some.named in
    named_line k old old left left NotMine Part.Library (Invoke c.args.mode) (invoked c.args.pool.now c.args.index c.args.mode) r operation c.in-Some.ensures
    (λ m t f below is runs some. leaves k old old left left NotMine Part.Library m t f below (Invoke c.args.mode r) refl refl refl
    (sym (c.is_library_call.ensures m left t f below is runs some) ∙ c.if-is_library_call.false)) e

pub returns-then-is_library_call-clause-takes : goal.returns-then-is_library_call-clause-takes
returns-then-is_library_call-clause-takes c =
    let k = c.args.world.now in
    let old = c.args.state.now in
    let new = c.invoke.new.state in
    let before = answers_left c.args.script.now in
    let after = answers_left c.invoke.new.script in
    let r = reference_seen c.in-Some.named in
    IfOk-weaker c.invoke.result _ _
    (λ step moves bytes operation e stands. named_line k old new before after step Part.Library (Invoke c.args.mode) (invoked c.args.pool.now c.args.index c.args.mode) r operation c.in-Some.ensures
    (λ m t f below is runs some. executes_own k old new before after step Part.Library m t f below (Invoke c.args.mode r) (moves m t f below is runs some)
    (sym (c.is_library_call.ensures m before t f below is runs some) ∙ c.if-is_library_call.true)) e)
    c.invoke.ensures.moves
