use Rattle.std.specs.Prelude.{refl}
use Rattle.class_machine.specs.declared.kinds.Access.TheVariants as access
use Rattle.class_file.specs.Lookup.{reference_seen}
use Rattle.class_file.specs.Pool.{field_at}
use Rattle.class_machine.specs.Operations.{FieldAccess}
use Rattle.machine_steps.specs.declared.step.Step.TheVariants.{NotMine}
use Rattle.std.proofs.Common.{ap}
use Rattle.machine_invocations.proofs.Begun.{on_err}
use Rattle.machine_core.specs.Taking.{is_of_object}
use Rattle.machine_core.proofs.Forms.{names_none, field_taken}
use Rattle.machine_core.proofs.executing.access_field.Goals as goal

pub returns-in_default-clause-takes : goal.returns-in_default-clause-takes
returns-in_default-clause-takes c left bytes operation e stands =
    let old = c.args.state.now in
    names_none c.args.world.now old old NotMine (FieldAccess c.args.access) (field_at c.args.pool.now c.args.index) c.in_default.ensures left operation e

pub returns-in-GetField-clause-takes : goal.returns-in-GetField-clause-takes
returns-in-GetField-clause-takes c =
    field_taken c.args.world.now c.args.state.now c.get_field.new.state c.get_field.result c.args.pool.now c.args.access access.GetField c.args.index (reference_seen c.in-Some.field) c.in-GetField.is refl c.in-Some.ensures c.get_field.ensures.moves

pub returns-in-PutField-clause-takes : goal.returns-in-PutField-clause-takes
returns-in-PutField-clause-takes c =
    field_taken c.args.world.now c.args.state.now c.put_field.new.state c.put_field.result c.args.pool.now c.args.access access.PutField c.args.index (reference_seen c.in-Some.field) c.in-PutField.is refl c.in-Some.ensures c.put_field.ensures.moves

pub returns-in-GetField-clause-own : goal.returns-in-GetField-clause-own
returns-in-GetField-clause-own c = on_err c.get_field.result (ap is_of_object c.in-GetField.is)

pub returns-in-PutField-clause-own : goal.returns-in-PutField-clause-own
returns-in-PutField-clause-own c = on_err c.put_field.result (ap is_of_object c.in-PutField.is)
