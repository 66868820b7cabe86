use Rattle.std.proofs.Common.{◌≡◌, length}
use Rattle.class_text.specs.Making.{methods_made}
use Rattle.class_text.proofs.MakingLists.{behind}
use Rattle.class_text.proofs.members.methods.Given as goal

abbrev pub invariant-loop-rest : goal.invariant-loop-rest
invariant-loop-rest l = methods_made l.version 0 l.lines l.fn.pool ≡ behind l.found (methods_made l.version (length l.found) l.rest l.pool)

abbrev pub decreases-loop-rest : goal.decreases-loop-rest
decreases-loop-rest l = length l.rest
