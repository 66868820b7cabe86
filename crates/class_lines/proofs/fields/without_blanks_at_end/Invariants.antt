use Rattle.std.proofs.Common.{◌≡◌, length}
use Rattle.class_lines.specs.Fields.{trimmed}
use Rattle.class_lines.proofs.fields.without_blanks_at_end.Given as goal

abbrev pub invariant-loop-last : goal.invariant-loop-last
invariant-loop-last l = trimmed l.front ≡ trimmed l.text

abbrev pub decreases-loop-last : goal.decreases-loop-last
decreases-loop-last l = length l.front
