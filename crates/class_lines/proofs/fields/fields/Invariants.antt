use Rattle.std.proofs.Common.{length}
use Rattle.class_lines.specs.Words.{texts}
use Rattle.class_lines.proofs.FieldLists.{Found}
use Rattle.class_lines.proofs.fields.fields.Given as goal

abbrev pub invariant-loop-rest : goal.invariant-loop-rest
invariant-loop-rest l = Found l.line l.rest (texts l.found.items)

abbrev pub decreases-loop-rest : goal.decreases-loop-rest
decreases-loop-rest l = length l.rest
