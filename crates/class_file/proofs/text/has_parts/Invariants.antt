use Rattle.std.proofs.Common.{◌≡◌, drop, true}
use Rattle.class_file.specs.Text.{has_parts}
use Rattle.class_file.proofs.text.has_parts.Given as goal

abbrev pub invariant-loop-b : goal.invariant-loop-b
invariant-loop-b l = has_parts l.fresh (drop l.b-index l.bytes) ≡ has_parts true l.bytes
