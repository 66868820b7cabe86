use Rattle.std.proofs.Common.{◌≡◌, ◌++◌, take}
use Rattle.run_lines.proofs.Printed.{others_text}
use Rattle.run_lines.proofs.values.put_values.Given as goal

abbrev pub invariant-loop-value : goal.invariant-loop-value
invariant-loop-value l = l.out.items ≡ l.initial.out.items ++ others_text (take l.value-index l.others)
