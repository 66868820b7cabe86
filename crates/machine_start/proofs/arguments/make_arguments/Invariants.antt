use Rattle.std.proofs.Common.{take}
use Rattle.std.specs.Prelude.{map}
use Rattle.machine_start.specs.Arguments.{argument_of, MakesValues}
use Rattle.machine_start.proofs.arguments.make_arguments.Given as goal

-- those so far
abbrev pub invariant-loop-arg : goal.invariant-loop-arg
invariant-loop-arg l = MakesValues l.world l.fn.heap (map argument_of (take l.arg-index l.args)) l.heap l.values
