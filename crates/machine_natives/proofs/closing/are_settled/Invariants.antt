use Rattle.std.proofs.Common.{take, length}
use Rattle.std.specs.List.{AllByRecursion}
use Rattle.machine_values.specs.Standing.{Settled}
use Rattle.machine_natives.proofs.closing.are_settled.Given as goal

-- those so far are
abbrev pub invariant-values : goal.invariant-values
invariant-values l = AllByRecursion (Settled (length l.heap.names)) (take l.value-index l.given)
