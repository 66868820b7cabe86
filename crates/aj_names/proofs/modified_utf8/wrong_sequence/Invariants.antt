use Rattle.std.proofs.Common.{length}
use Rattle.aj_names.proofs.Texts.{IsPartRead}
use Rattle.aj_names.proofs.modified_utf8.wrong_sequence.Given as goal

abbrev pub invariant-loop-rest : goal.invariant-loop-rest
invariant-loop-rest l = IsPartRead l.bytes l.rest

abbrev pub decreases-loop-rest : goal.decreases-loop-rest
decreases-loop-rest l = length l.rest
