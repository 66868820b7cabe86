use Rattle.std.proofs.Common.{◌≡◌}
use Rattle.class_file.specs.Code.{numbered}
use Rattle.class_listing.specs.Steps.{case_at}
use Rattle.class_listing.proofs.operations.lookup.Given as goal

abbrev pub invariant-loop-i : goal.invariant-loop-i
invariant-loop-i l = l.cases ≡ numbered l.i (case_at l.code l.pc l.table)
