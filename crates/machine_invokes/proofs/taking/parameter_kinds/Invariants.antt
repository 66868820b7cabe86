use Rattle.std.specs.Prelude.{◌-◌, length}
use Rattle.class_machine.specs.Descriptors.{parameters_in}
use Rattle.machine_invokes.proofs.Taken.{Gathers}
use Rattle.machine_invokes.proofs.taking.parameter_kinds.Given as goal

abbrev pub invariant-kinds : goal.invariant-kinds
invariant-kinds l = Gathers (parameters_in l.descriptor) l.kinds.items

abbrev pub decreases-kinds : goal.decreases-kinds
decreases-kinds l = length (parameters_in l.descriptor) - length l.kinds.items
