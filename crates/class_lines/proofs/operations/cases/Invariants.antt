use Rattle.std.proofs.Common.{◌≡◌, drop, negsuc, ◌^◌}
use Rattle.class_lines.specs.Words.{texts}
use Rattle.class_lines.specs.Operations.{cases_above}
use Rattle.class_lines.proofs.WordLists.{before}
use Rattle.class_lines.proofs.operations.cases.Given as goal

-- the cases that were found, and those that are left
abbrev pub invariant-loop-word : goal.invariant-loop-word
invariant-loop-word l = cases_above (negsuc (2 ^ 31)) (texts l.words) ≡ before l.found (cases_above l.last (texts (drop l.word-index l.words)))
