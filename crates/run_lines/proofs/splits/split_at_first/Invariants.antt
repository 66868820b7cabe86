use Rattle.std.proofs.Common.{◌≡◌, false, take}
use Rattle.run_lines.specs.Splits.{has}
use Rattle.run_lines.proofs.splits.split_at_first.Given as goal

abbrev pub invariant-loop-place : goal.invariant-loop-place
invariant-loop-place l = has l.byte (take l.place l.text) ≡ false
