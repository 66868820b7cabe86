use Rattle.std.proofs.Common.{◌≤◌, length, drop}
use Rattle.std.specs.List.{AllByRecursion}
use Rattle.machine_steps.specs.Unwinding.{Passes}
use Rattle.machine_steps.proofs.unwinding.way_of.Given as goal

abbrev pub invariant-down : goal.invariant-down
invariant-down l = record { few : l.left ≤ length l.state.frames.items; passed : AllByRecursion (Passes l.world l.class.0) (drop l.left l.state.frames.items) }

abbrev pub decreases-down : goal.decreases-down
decreases-down l = l.left
