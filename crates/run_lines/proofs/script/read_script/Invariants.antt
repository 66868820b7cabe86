use Rattle.std.proofs.Common.{length}
use Rattle.run_lines.proofs.ScriptRead.{IsRead}
use Rattle.run_lines.proofs.script.read_script.Given as goal

abbrev pub invariant-loop-rest : goal.invariant-loop-rest
invariant-loop-rest l = IsRead l.text l.rest l.answers

abbrev pub decreases-loop-rest : goal.decreases-loop-rest
decreases-loop-rest l = length l.rest
