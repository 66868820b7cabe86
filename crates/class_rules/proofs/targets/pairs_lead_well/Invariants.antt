use Rattle.std.proofs.Common.{◌≡◌, List, true}
use Rattle.std.specs.Prelude.{pos, ◌+ℤ◌}
use Rattle.std.specs.List.{list_all}
use Rattle.opcode_table.specs.Decoding.{pair_offset}
use Rattle.class_file.specs.Code.{Placed, is_start_at, numbered}
use Rattle.class_rules.specs.Starts.{Marks}
use Rattle.class_rules.proofs.targets.pairs_lead_well.Given as goal

abbrev pub invariant-loop-i : goal.invariant-loop-i
invariant-loop-i l =
    (insns : List Placed) → Marks l.starts insns → list_all (λ offset. is_start_at insns (pos l.pc +ℤ offset)) (numbered l.i (pair_offset l.code l.table)) ≡ true
