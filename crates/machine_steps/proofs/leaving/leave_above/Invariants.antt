use Rattle.std.proofs.Common.{◌≤◌, length}
use Rattle.machine_steps.specs.Leaving.{Drops}
use Rattle.machine_steps.proofs.leaving.leave_above.Given as goal

abbrev pub invariant-leaving : goal.invariant-leaving
invariant-leaving l = record { drops : Drops l.initial.state l.state (length l.state.frames.items); most : l.count ≤ length l.state.frames.items }

abbrev pub decreases-leaving : goal.decreases-leaving
decreases-leaving l = length l.state.frames.items
