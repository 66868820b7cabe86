use Rattle.std.proofs.Common.{◌≡◌, length}
use Rattle.class_text.specs.Making.{fields_made}
use Rattle.class_text.proofs.MakingLists.{behind}
use Rattle.class_text.proofs.members.fields.Given as goal

abbrev pub invariant-loop-rest : goal.invariant-loop-rest
invariant-loop-rest l = fields_made 0 l.lines l.fn.pool ≡ behind l.found (fields_made (length l.found) l.rest l.pool)

abbrev pub decreases-loop-rest : goal.decreases-loop-rest
decreases-loop-rest l = length l.rest
