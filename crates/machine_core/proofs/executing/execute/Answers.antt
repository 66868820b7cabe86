use Rattle.std.specs.Prelude.{◌≡◌, true, OnErr, refl}
use Rattle.machine_steps.specs.declared.step.Step.TheVariants.{NotMine}
use Rattle.machine_core.specs.Taking.{is_core_form, TakesCore}
use Rattle.machine_core.specs.Sparing.{MayNeedBy}
use Rattle.std.proofs.Common.{sym, ap, subst}
use Rattle.machine_code.specs.declared.operation.Operation.{Operation}
use Rattle.machine_code.specs.declared.operation.Operation.TheVariants as code
use Rattle.std.proofs.lemmas.Result.{on_err_weaker}
use Rattle.machine_invocations.proofs.Begun.{on_err}
use Rattle.machine_basics.specs.Performed.{is_return}
use Rattle.machine_core.proofs.Forms.{basic_taking, form_taken, basic_taken, switch_taken, call_left}
use Rattle.machine_core.proofs.Spared.{names_something, named_needs, basic_needs}
use Rattle.machine_core.proofs.executing.execute.Goals as goal

pub returns-in-Do-clause-takes : goal.returns-in-Do-clause-takes
returns-in-Do-clause-takes c =
    let k = c.args.world.now in
    let old = c.args.state.now in
    let new = c.step_basic.new.state in
    let basic = c.in-Do.basic in
    form_taken k old new c.step_basic.result c.args.pool.now c.args.operation (code.Do basic) c.in-Do.is
    (basic_taken k old new basic c.step_basic.result c.args.pool.now (is_return basic) refl c.step_basic.ensures.left c.step_basic.ensures.same c.step_basic.ensures.moves)

pub returns-in-Refer-clause-takes : goal.returns-in-Refer-clause-takes
returns-in-Refer-clause-takes c =
    form_taken c.args.world.now c.args.state.now c.refer_to.new.state c.refer_to.result c.args.pool.now c.args.operation (code.Refer c.in-Refer.index) c.in-Refer.is c.refer_to.ensures.takes

pub returns-in-ReferClass-clause-takes : goal.returns-in-ReferClass-clause-takes
returns-in-ReferClass-clause-takes c =
    form_taken c.args.world.now c.args.state.now c.execute_on_class.new.state c.execute_on_class.result c.args.pool.now c.args.operation (code.ReferClass c.in-ReferClass.index) c.in-ReferClass.is c.execute_on_class.ensures.takes

pub returns-in-FieldAccess-clause-takes : goal.returns-in-FieldAccess-clause-takes
returns-in-FieldAccess-clause-takes c =
    form_taken c.args.world.now c.args.state.now c.access_field.new.state c.access_field.result c.args.pool.now c.args.operation (code.FieldAccess c.in-FieldAccess.access c.in-FieldAccess.index) c.in-FieldAccess.is c.access_field.ensures.takes

pub returns-in-NewReferenceArray-clause-takes : goal.returns-in-NewReferenceArray-clause-takes
returns-in-NewReferenceArray-clause-takes c =
    form_taken c.args.world.now c.args.state.now c.execute_on_class-in-NewReferenceArray.new.state c.execute_on_class-in-NewReferenceArray.result c.args.pool.now c.args.operation (code.NewReferenceArray c.in-NewReferenceArray.index) c.in-NewReferenceArray.is c.execute_on_class-in-NewReferenceArray.ensures.takes

pub returns-in-CheckCast-clause-takes : goal.returns-in-CheckCast-clause-takes
returns-in-CheckCast-clause-takes c =
    form_taken c.args.world.now c.args.state.now c.execute_on_class-in-CheckCast.new.state c.execute_on_class-in-CheckCast.result c.args.pool.now c.args.operation (code.CheckCast c.in-CheckCast.index) c.in-CheckCast.is c.execute_on_class-in-CheckCast.ensures.takes

pub returns-in-InstanceOf-clause-takes : goal.returns-in-InstanceOf-clause-takes
returns-in-InstanceOf-clause-takes c =
    form_taken c.args.world.now c.args.state.now c.execute_on_class-in-InstanceOf.new.state c.execute_on_class-in-InstanceOf.result c.args.pool.now c.args.operation (code.InstanceOf c.in-InstanceOf.index) c.in-InstanceOf.is c.execute_on_class-in-InstanceOf.ensures.takes

pub returns-in-NewArrays-clause-takes : goal.returns-in-NewArrays-clause-takes
returns-in-NewArrays-clause-takes c =
    form_taken c.args.world.now c.args.state.now c.execute_on_class-in-NewArrays.new.state c.execute_on_class-in-NewArrays.result c.args.pool.now c.args.operation (code.NewArrays c.in-NewArrays.index c.in-NewArrays.dims) c.in-NewArrays.is c.execute_on_class-in-NewArrays.ensures.takes

pub returns-in-Switch-clause-takes : goal.returns-in-Switch-clause-takes
returns-in-Switch-clause-takes c =
    let k = c.args.world.now in
    let old = c.args.state.now in
    let new = c.switch.new.state in
    let table = c.in-Switch.field-0 in
    subst (λ (o : Operation). TakesCore k old new c.switch.result c.args.pool.now o) (sym c.in-Switch.is) (switch_taken k old new c.switch.result c.args.pool.now table c.switch.ensures.moves)

pub returns-in-Invoke-clause-takes : goal.returns-in-Invoke-clause-takes
returns-in-Invoke-clause-takes c = call_left c.args.world.now c.args.state.now c.args.state.now NotMine c.args.pool.now c.args.operation refl refl c.in-Invoke.is

pub returns-in-Do-clause-own : goal.returns-in-Do-clause-own
returns-in-Do-clause-own c =
    subst (λ (o : Operation). OnErr c.step_basic.result (is_core_form o ≡ true)) (sym c.in-Do.is) (basic_taking c.in-Do.basic c.step_basic.result (is_return c.in-Do.basic) refl c.step_basic.ensures.left)

pub returns-in-FieldAccess-clause-own : goal.returns-in-FieldAccess-clause-own
returns-in-FieldAccess-clause-own c =
    subst (λ (o : Operation). OnErr c.access_field.result (is_core_form o ≡ true)) (sym c.in-FieldAccess.is) c.access_field.ensures.own

pub returns-in-Refer-clause-own : goal.returns-in-Refer-clause-own
returns-in-Refer-clause-own c = on_err c.refer_to.result (ap is_core_form c.in-Refer.is)

pub returns-in-ReferClass-clause-own : goal.returns-in-ReferClass-clause-own
returns-in-ReferClass-clause-own c = on_err c.execute_on_class.result (ap is_core_form c.in-ReferClass.is)

pub returns-in-NewReferenceArray-clause-own : goal.returns-in-NewReferenceArray-clause-own
returns-in-NewReferenceArray-clause-own c = on_err c.execute_on_class-in-NewReferenceArray.result (ap is_core_form c.in-NewReferenceArray.is)

pub returns-in-NewArrays-clause-own : goal.returns-in-NewArrays-clause-own
returns-in-NewArrays-clause-own c = on_err c.execute_on_class-in-NewArrays.result (ap is_core_form c.in-NewArrays.is)

pub returns-in-CheckCast-clause-own : goal.returns-in-CheckCast-clause-own
returns-in-CheckCast-clause-own c = on_err c.execute_on_class-in-CheckCast.result (ap is_core_form c.in-CheckCast.is)

pub returns-in-InstanceOf-clause-own : goal.returns-in-InstanceOf-clause-own
returns-in-InstanceOf-clause-own c = on_err c.execute_on_class-in-InstanceOf.result (ap is_core_form c.in-InstanceOf.is)

pub returns-in-Do-clause-spared : goal.returns-in-Do-clause-spared
returns-in-Do-clause-spared c =
    subst (λ (o : Operation). OnErr c.step_basic.result (MayNeedBy c.args.world.now c.args.state.now c.args.pool.now o)) (sym c.in-Do.is)
    (on_err_weaker c.step_basic.result (basic_needs c.args.world.now c.args.state.now c.args.pool.now c.in-Do.basic) c.step_basic.ensures.spared)

pub returns-in-Refer-clause-spared : goal.returns-in-Refer-clause-spared
returns-in-Refer-clause-spared c = on_err c.refer_to.result (named_needs c.args.world.now c.args.state.now c.args.pool.now c.args.operation (ap names_something c.in-Refer.is))

pub returns-in-ReferClass-clause-spared : goal.returns-in-ReferClass-clause-spared
returns-in-ReferClass-clause-spared c = on_err c.execute_on_class.result (named_needs c.args.world.now c.args.state.now c.args.pool.now c.args.operation (ap names_something c.in-ReferClass.is))

pub returns-in-FieldAccess-clause-spared : goal.returns-in-FieldAccess-clause-spared
returns-in-FieldAccess-clause-spared c = on_err c.access_field.result (named_needs c.args.world.now c.args.state.now c.args.pool.now c.args.operation (ap names_something c.in-FieldAccess.is))

pub returns-in-NewReferenceArray-clause-spared : goal.returns-in-NewReferenceArray-clause-spared
returns-in-NewReferenceArray-clause-spared c = on_err c.execute_on_class-in-NewReferenceArray.result (named_needs c.args.world.now c.args.state.now c.args.pool.now c.args.operation (ap names_something c.in-NewReferenceArray.is))

pub returns-in-NewArrays-clause-spared : goal.returns-in-NewArrays-clause-spared
returns-in-NewArrays-clause-spared c = on_err c.execute_on_class-in-NewArrays.result (named_needs c.args.world.now c.args.state.now c.args.pool.now c.args.operation (ap names_something c.in-NewArrays.is))

pub returns-in-CheckCast-clause-spared : goal.returns-in-CheckCast-clause-spared
returns-in-CheckCast-clause-spared c = on_err c.execute_on_class-in-CheckCast.result (named_needs c.args.world.now c.args.state.now c.args.pool.now c.args.operation (ap names_something c.in-CheckCast.is))

pub returns-in-InstanceOf-clause-spared : goal.returns-in-InstanceOf-clause-spared
returns-in-InstanceOf-clause-spared c = on_err c.execute_on_class-in-InstanceOf.result (named_needs c.args.world.now c.args.state.now c.args.pool.now c.args.operation (ap names_something c.in-InstanceOf.is))
