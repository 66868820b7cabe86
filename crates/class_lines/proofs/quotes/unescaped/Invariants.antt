use Rattle.std.proofs.Common.{length}
use Rattle.class_lines.proofs.PieceLists.{Written}
use Rattle.class_lines.proofs.quotes.unescaped.Given as goal

abbrev pub invariant-loop-rest : goal.invariant-loop-rest
invariant-loop-rest l = Written l.written l.rest l.out.items

abbrev pub decreases-loop-rest : goal.decreases-loop-rest
decreases-loop-rest l = length l.rest
