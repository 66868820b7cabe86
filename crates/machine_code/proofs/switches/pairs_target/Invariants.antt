use Rattle.std.proofs.Common.{◌≡◌, ℕ, ◌<◌}
use Rattle.opcode_table.specs.Decoding.{pair_key}
use Rattle.machine_code.proofs.switches.pairs_target.Given as goal

-- none of the keys before is the one
abbrev pub invariant-loop-i : goal.invariant-loop-i
invariant-loop-i l = (j : ℕ) → j < l.i → pair_key l.code l.table j ≡ l.key → ⊥
