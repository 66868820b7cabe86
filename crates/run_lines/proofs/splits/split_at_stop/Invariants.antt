use Rattle.std.proofs.Common.{◌≡◌, false, take}
use Rattle.std.specs.List.{list_any}
use Rattle.run_lines.specs.Splits.{is_stop}
use Rattle.run_lines.proofs.splits.split_at_stop.Given as goal

abbrev pub invariant-loop-place : goal.invariant-loop-place
invariant-loop-place l = list_any is_stop (take l.place l.text) ≡ false
