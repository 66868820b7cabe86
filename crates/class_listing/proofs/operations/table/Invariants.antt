use Rattle.std.proofs.Common.{◌≡◌}
use Rattle.opcode_table.specs.Decoding.{table_offset}
use Rattle.class_file.specs.Code.{numbered}
use Rattle.class_listing.specs.Steps.{target}
use Rattle.class_listing.proofs.operations.table.Given as goal

abbrev pub invariant-loop-i : goal.invariant-loop-i
invariant-loop-i l = l.labels ≡ numbered l.i (λ i. target l.pc (table_offset l.code l.table i))
