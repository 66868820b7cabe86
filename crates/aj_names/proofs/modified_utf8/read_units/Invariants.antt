use Rattle.std.proofs.Common.{length}
use Rattle.aj_names.proofs.Texts.{Reads}
use Rattle.aj_names.proofs.modified_utf8.read_units.Given as goal

abbrev pub invariant-loop-rest : goal.invariant-loop-rest
invariant-loop-rest l = Reads l.bytes l.units.items l.rest

abbrev pub decreases-loop-rest : goal.decreases-loop-rest
decreases-loop-rest l = length l.rest
