use Rattle.std.proofs.Common.{◌≡◌, length}
use Rattle.class_text.specs.Making.{steps_made}
use Rattle.class_text.proofs.MakingLists.{behind}
use Rattle.class_text.proofs.members.code_bytes.Given as goal

abbrev pub invariant-loop-rest : goal.invariant-loop-rest
invariant-loop-rest l = steps_made l.version l.body 0 l.body l.fn.pool ≡ behind l.out.items (steps_made l.version l.body l.pc l.rest l.pool)

abbrev pub decreases-loop-rest : goal.decreases-loop-rest
decreases-loop-rest l = length l.rest
