use Rattle.std.specs.Prelude.{refl}
use Rattle.std.proofs.Common.{sym, ap, subst}
use Rattle.std.proofs.lemmas.Option.{same_Some}
use Rattle.std.proofs.lemmas.Result.{IfOk-weaker}
use Rattle.class_machine.specs.Operations.{Operation, Do}
use Rattle.machine_code.specs.declared.operation.Operation as code
use Rattle.machine_parts.specs.Forms.{form_core}
use Rattle.machine_parts.specs.Lines.{TakesLine, TakesForm}
use Rattle.machine_parts.specs.Taken.{leaves_line}
use Rattle.machine_steps.specs.declared.step.Step.TheVariants.{NotMine}
use Rattle.machine_steps.specs.Parts.{Part, is_part}
use Rattle.machine_steps.specs.Runs.{answers_left}
use Rattle.machine_calls.proofs.executing.execute.Goals as goal

pub returns-in-Do-clause-takes : goal.returns-in-Do-clause-takes
returns-in-Do-clause-takes c =
    let k = c.args.world.now in
    let old = c.args.state.now in
    let new = c.execute_basic.new.state in
    let left = answers_left c.args.script.now in
    IfOk-weaker c.execute_basic.result _ _
    (λ step takes. subst (λ (x : code.Operation). TakesForm Part.Calls k old new left left step c.args.pool.now x) (sym c.in-Do.is)
    (λ bytes operation e stands. subst (λ (o : Operation). TakesLine Part.Calls k old new left left step o) (same_Some (Do c.in-Do.basic) operation e) (takes left)))
    c.execute_basic.ensures.takes

pub returns-in-FieldAccess-clause-takes : goal.returns-in-FieldAccess-clause-takes
returns-in-FieldAccess-clause-takes c =
    let left = answers_left c.args.script.now in
    IfOk-weaker c.access_field.result _ _
    (λ step takes. subst (λ (x : code.Operation). TakesForm Part.Calls c.args.world.now c.args.state.now c.access_field.new.state left left step c.args.pool.now x) (sym c.in-FieldAccess.is) (takes left))
    c.access_field.ensures.takes

pub returns-in-Invoke-clause-takes : goal.returns-in-Invoke-clause-takes
returns-in-Invoke-clause-takes c =
    IfOk-weaker c.call.result _ _
    (λ step takes. subst (λ (x : code.Operation). TakesForm Part.Calls c.args.world.now c.args.state.now c.call.new.state (answers_left c.args.script.now) (answers_left c.call.new.script) step c.args.pool.now x) (sym c.in-Invoke.is) takes)
    c.call.ensures.takes

pub returns-in-New-clause-takes : goal.returns-in-New-clause-takes
returns-in-New-clause-takes c =
    let left = answers_left c.args.script.now in
    IfOk-weaker c.announce.result _ _
    (λ step takes. subst (λ (x : code.Operation). TakesForm Part.Calls c.args.world.now c.args.state.now c.announce.new.state left left step c.args.pool.now x) (sym c.in-New.is) (takes left))
    c.announce.ensures.takes

pub returns-in_default-clause-takes : goal.returns-in_default-clause-takes
returns-in_default-clause-takes c = λ bytes operation e stands.
    let left = answers_left c.args.script.now in
    leaves_line c.args.world.now c.args.state.now c.args.state.now left left NotMine Part.Calls operation refl refl refl
    (λ m f. ap (λ part. is_part part Part.Calls) (form_core m.files m.setting.classes f c.args.pool.now bytes c.args.operation operation
    c.in_default.not-Do c.in_default.not-FieldAccess c.in_default.not-Invoke c.in_default.not-New e))
