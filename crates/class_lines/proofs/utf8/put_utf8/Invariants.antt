use Rattle.std.proofs.Common.{◌≡◌, ◌++◌, length}
use Rattle.class_lines.specs.Utf8.{utf8_of}
use Rattle.class_lines.proofs.utf8.put_utf8.Given as goal

-- what is put out, and what is left
abbrev pub invariant-loop-rest : goal.invariant-loop-rest
invariant-loop-rest l = l.out.items ++ utf8_of l.rest ≡ l.fn.out.items ++ utf8_of l.bytes

abbrev pub decreases-loop-rest : goal.decreases-loop-rest
decreases-loop-rest l = length l.rest
