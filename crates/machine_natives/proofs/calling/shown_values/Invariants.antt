use Rattle.std.proofs.Common.{take}
use Rattle.machine_invocations.specs.Showing.{AreShown}
use Rattle.machine_natives.specs.Calls.{values_given}
use Rattle.machine_natives.proofs.calling.shown_values.Given as goal

-- those so far
abbrev pub invariant-arguments : goal.invariant-arguments
invariant-arguments l = AreShown l.world l.heap (values_given l.fn.receiver (take l.value-index l.given)) l.seen.items
