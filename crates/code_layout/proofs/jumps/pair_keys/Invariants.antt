use Rattle.std.proofs.Common.{◌≡◌}
use Rattle.opcode_table.specs.Decoding.{pair_key}
use Rattle.class_file.specs.Code.{numbered}
use Rattle.code_layout.proofs.jumps.pair_keys.Given as goal

abbrev pub invariant-loop-i : goal.invariant-loop-i
invariant-loop-i l = l.keys.items ≡ numbered l.i (pair_key l.code l.table)
