use Rattle.std.proofs.Common.{length}
use Rattle.aj_names.proofs.Loops.{ParamsRead}
use Rattle.aj_names.proofs.reading.params_of.Given as goal

abbrev pub invariant-loop-first : goal.invariant-loop-first
invariant-loop-first l = ParamsRead l.params l.rest l.bytes

abbrev pub decreases-loop-first : goal.decreases-loop-first
decreases-loop-first l = length l.rest
