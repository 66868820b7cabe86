use Rattle.std.specs.Prelude.{refl}
use Rattle.std.proofs.Common.{sym, subst}
use Rattle.std.proofs.lemmas.Result.{IfOk-weaker}
use Rattle.class_file.specs.Lookup.{reference_seen}
use Rattle.class_file.specs.Pool.{field_at}
use Rattle.class_machine.specs.declared.kinds.Access.{Access}
use Rattle.class_machine.specs.declared.kinds.Access.TheVariants as access
use Rattle.class_machine.specs.Operations.{FieldAccess}
use Rattle.machine_code.specs.declared.operation.Operation.TheVariants as form
use Rattle.machine_parts.specs.Lines.{TakesForm}
use Rattle.machine_parts.specs.Taken.{executes_line, named_line, nothing_named, moves_over}
use Rattle.machine_steps.specs.declared.step.Step.TheVariants.{NotMine}
use Rattle.machine_steps.specs.Parts.{Part}
use Rattle.machine_calls.proofs.executing.access_field.Goals as goal

pub returns-in_default-clause-takes : goal.returns-in_default-clause-takes
returns-in_default-clause-takes c = λ left bytes operation e stands.
    nothing_named c.args.world.now c.args.state.now c.args.state.now left left NotMine Part.Calls (FieldAccess c.args.access) (field_at c.args.pool.now c.args.index) operation c.in_default.ensures e

pub returns-in-GetStatic-clause-takes : goal.returns-in-GetStatic-clause-takes
returns-in-GetStatic-clause-takes c =
    let k = c.args.world.now in
    let old = c.args.state.now in
    let new = c.get_static.new.state in
    let r = reference_seen c.in-Some.field in
    IfOk-weaker c.get_static.result _ _
    (λ step moves left. subst (λ (a : Access). TakesForm Part.Calls k old new left left step c.args.pool.now (form.FieldAccess a c.args.index)) (sym c.in-GetStatic.is)
    (λ bytes operation e stands. named_line k old new left left step Part.Calls (FieldAccess access.GetStatic) (field_at c.args.pool.now c.args.index) r operation c.in-Some.ensures
    (executes_line k old new left left step Part.Calls (FieldAccess access.GetStatic r) (moves_over k old new left step (FieldAccess access.GetStatic r) moves) (λ m f. refl)) e))
    c.get_static.ensures.moves

pub returns-in-PutStatic-clause-takes : goal.returns-in-PutStatic-clause-takes
returns-in-PutStatic-clause-takes c =
    let k = c.args.world.now in
    let old = c.args.state.now in
    let new = c.put_static.new.state in
    let r = reference_seen c.in-Some.field in
    IfOk-weaker c.put_static.result _ _
    (λ step moves left. subst (λ (a : Access). TakesForm Part.Calls k old new left left step c.args.pool.now (form.FieldAccess a c.args.index)) (sym c.in-PutStatic.is)
    (λ bytes operation e stands. named_line k old new left left step Part.Calls (FieldAccess access.PutStatic) (field_at c.args.pool.now c.args.index) r operation c.in-Some.ensures
    (executes_line k old new left left step Part.Calls (FieldAccess access.PutStatic r) (moves_over k old new left step (FieldAccess access.PutStatic r) moves) (λ m f. refl)) e))
    c.put_static.ensures.moves
