use Rattle.std.proofs.Common.{◌≡◌, length}
use Rattle.class_text.specs.Making.{entries_made}
use Rattle.class_text.proofs.MakingLists.{behind}
use Rattle.class_text.proofs.members.entries.Given as goal

abbrev pub invariant-loop-rest : goal.invariant-loop-rest
invariant-loop-rest l = entries_made l.body 0 l.body l.fn.pool ≡ behind l.found (entries_made l.body (length l.found) l.rest l.pool)

abbrev pub decreases-loop-rest : goal.decreases-loop-rest
decreases-loop-rest l = length l.rest
