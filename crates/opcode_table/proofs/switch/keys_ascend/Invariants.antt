-- The keys up to the last one that was read ascend.
use Rattle.std.proofs.Common.{◌≡◌, ◌-◌, true}
use Rattle.opcode_table.specs.Decoding.{each_below, ascends_at}
use Rattle.opcode_table.proofs.switch.keys_ascend.Given as goal

abbrev pub invariant-loop-i : goal.invariant-loop-i
invariant-loop-i l = each_below (l.i - 1) (λ i. ascends_at l.code l.table i) ≡ true
