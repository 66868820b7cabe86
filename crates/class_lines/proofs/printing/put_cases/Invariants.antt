use Rattle.std.proofs.Common.{◌≡◌, ◌++◌, take}
use Rattle.std.specs.Prelude.{map}
use Rattle.class_lines.specs.Printing.{all_spaced, case_text}
use Rattle.class_lines.proofs.printing.put_cases.Given as goal

abbrev pub invariant-loop-case : goal.invariant-loop-case
invariant-loop-case l = l.out.items ≡ l.fn.out.items ++ all_spaced (map case_text (take l.case-index l.cases))
