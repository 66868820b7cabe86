use Rattle.machine_core.specs.declared.executing.ClassForm.{ClassForm}
use Rattle.machine_core.proofs.Forms.{class_taken, class_nowhere}
use Rattle.machine_core.proofs.executing.execute_on_class.Goals as goal

pub returns-in_default-clause-takes : goal.returns-in_default-clause-takes
returns-in_default-clause-takes c = class_nowhere c.args.world.now c.args.state.now c.args.pool.now c.args.form c.args.index c.in_default.ensures

pub returns-in-Refer-clause-takes : goal.returns-in-Refer-clause-takes
returns-in-Refer-clause-takes c =
    class_taken c.args.world.now c.args.state.now c.refer_class.new.state c.refer_class.result c.args.pool.now c.args.form ClassForm.Refer c.args.index c.in-Some.class.now c.in-Refer.is c.in-Some.ensures c.refer_class.ensures.moves

pub returns-in-NewReferenceArray-clause-takes : goal.returns-in-NewReferenceArray-clause-takes
returns-in-NewReferenceArray-clause-takes c =
    class_taken c.args.world.now c.args.state.now c.new_reference_array.new.state c.new_reference_array.result c.args.pool.now c.args.form ClassForm.NewReferenceArray c.args.index c.in-Some.class.now c.in-NewReferenceArray.is c.in-Some.ensures c.new_reference_array.ensures.moves

pub returns-in-NewArrays-clause-takes : goal.returns-in-NewArrays-clause-takes
returns-in-NewArrays-clause-takes c =
    class_taken c.args.world.now c.args.state.now c.step_new_arrays.new.state c.step_new_arrays.result c.args.pool.now c.args.form (ClassForm.NewArrays c.in-NewArrays.dims) c.args.index c.in-Some.class.now c.in-NewArrays.is c.in-Some.ensures c.step_new_arrays.ensures.moves

pub returns-in-CheckCast-clause-takes : goal.returns-in-CheckCast-clause-takes
returns-in-CheckCast-clause-takes c =
    class_taken c.args.world.now c.args.state.now c.check_cast.new.state c.check_cast.result c.args.pool.now c.args.form ClassForm.CheckCast c.args.index c.in-Some.class.now c.in-CheckCast.is c.in-Some.ensures c.check_cast.ensures.moves

pub returns-in-InstanceOf-clause-takes : goal.returns-in-InstanceOf-clause-takes
returns-in-InstanceOf-clause-takes c =
    class_taken c.args.world.now c.args.state.now c.instance_of.new.state c.instance_of.result c.args.pool.now c.args.form ClassForm.InstanceOf c.args.index c.in-Some.class.now c.in-InstanceOf.is c.in-Some.ensures c.instance_of.ensures.moves
