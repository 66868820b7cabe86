use Rattle.std.proofs.Common.{◌≡◌, List, drop}
use Rattle.class_file.specs.Code.{Placed, first_stray}
use Rattle.class_rules.specs.Starts.{Marks}
use Rattle.class_rules.proofs.targets.table_fault.Given as goal

abbrev pub invariant-loop-entry : goal.invariant-loop-entry
invariant-loop-entry l =
    (insns : List Placed) → Marks l.starts insns → first_stray l.code insns (drop l.entry-index l.entries) ≡ first_stray l.code insns l.entries
