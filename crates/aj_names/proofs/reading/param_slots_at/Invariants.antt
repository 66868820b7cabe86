use Rattle.std.proofs.Common.{length}
use Rattle.aj_names.proofs.Loops.{SlotsRead}
use Rattle.aj_names.proofs.reading.param_slots_at.Given as goal

abbrev pub invariant-loop-first : goal.invariant-loop-first
invariant-loop-first l = SlotsRead l.slots l.rest l.bytes

abbrev pub decreases-loop-first : goal.decreases-loop-first
decreases-loop-first l = length l.rest
