use Rattle.std.proofs.Common.{◌≡◌, drop}
use Rattle.class_text.specs.Making.{interfaces_made}
use Rattle.class_text.proofs.MakingLists.{behind}
use Rattle.class_text.proofs.making.interfaces.Given as goal

abbrev pub invariant-loop-name : goal.invariant-loop-name
invariant-loop-name l = interfaces_made l.line l.names l.fn.pool ≡ behind l.found (interfaces_made l.line (drop l.name-index l.names) l.pool)
