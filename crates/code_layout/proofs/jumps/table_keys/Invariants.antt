use Rattle.std.proofs.Common.{◌≡◌, ◌∷◌, pos, ◌+ℤ◌}
use Rattle.opcode_table.specs.Decoding.{table_low}
use Rattle.class_file.specs.Code.{numbered}
use Rattle.code_layout.proofs.jumps.table_keys.Given as goal

abbrev pub invariant-loop-i : goal.invariant-loop-i
invariant-loop-i l = l.keys.items ≡ numbered l.i (λ i. table_low l.code l.table +ℤ pos i)
