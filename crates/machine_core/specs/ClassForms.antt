-- The instructions that name a class or array type and initialise none.
use Rattle.std.specs.Prelude.{ℕ}
use Rattle.machine_code.specs.declared.operation.Operation.{Operation}
use Rattle.machine_core.specs.declared.executing.ClassForm.{ClassForm}

abbrev pub on_class : ClassForm → ℕ → Operation
on_class ClassForm.Refer index = Operation.ReferClass index
on_class ClassForm.NewReferenceArray index = Operation.NewReferenceArray index
on_class (ClassForm.NewArrays dims) index = Operation.NewArrays index dims
on_class ClassForm.CheckCast index = Operation.CheckCast index
on_class ClassForm.InstanceOf index = Operation.InstanceOf index
