use Rattle.std.proofs.Common.{length}
use Rattle.run_lines.proofs.Closing.{IsAlong}
use Rattle.run_lines.proofs.texts.closed_text.Given as goal

abbrev pub invariant-loop-behind : goal.invariant-loop-behind
invariant-loop-behind l = IsAlong l.text l.rest l.bytes.items

abbrev pub decreases-loop-behind : goal.decreases-loop-behind
decreases-loop-behind l = length l.rest
