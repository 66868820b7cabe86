use Rattle.std.proofs.Common.{length}
use Rattle.class_lines.proofs.CodeLists.{Recoded}
use Rattle.class_lines.proofs.recoding.modified.Given as goal

abbrev pub invariant-loop-rest : goal.invariant-loop-rest
invariant-loop-rest l = Recoded l.line l.rest l.out.items

abbrev pub decreases-loop-rest : goal.decreases-loop-rest
decreases-loop-rest l = length l.rest
