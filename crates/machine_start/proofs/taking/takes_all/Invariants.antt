use Rattle.std.proofs.Common.{◌≡◌}
use Rattle.std.specs.Prelude.{map}
use Rattle.class_machine.specs.Descriptors.{parameters_in}
use Rattle.class_machine.specs.Start.{takes_all}
use Rattle.machine_invocations.specs.Methods.{classes_in}
use Rattle.machine_start.specs.Arguments.{argument_of}
use Rattle.machine_start.proofs.Types.{left_take}
use Rattle.machine_start.proofs.taking.takes_all.Given as goal

-- what is left decides
abbrev pub invariant-loop-arg : goal.invariant-loop-arg
invariant-loop-arg l = left_take (classes_in l.world) l.args l.rest l.arg-index ≡ takes_all (classes_in l.world) (parameters_in l.descriptor) (map argument_of l.args)
