use Rattle.std.proofs.Common.{◌≡◌, ◌++◌, map, take, drop}
use Rattle.machine_values.specs.Stacks.{filled_in}
use Rattle.machine_values.proofs.operands.fill_in.Given as goal

abbrev pub invariant-loop-value : goal.invariant-loop-value
invariant-loop-value l = l.values ≡ map (filled_in l.number l.object) (take l.value-index l.initial.values) ++ drop l.value-index l.initial.values
