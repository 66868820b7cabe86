use Rattle.std.proofs.Common.{◌≡◌, ◌≤◌, ◌+◌, ℕ, length, get_or}
use Rattle.code_layout.specs.Blocks.{start_of}
use Rattle.code_layout.proofs.row.starts.Given as goal

abbrev pub invariant-loop-block : goal.invariant-loop-block
invariant-loop-block l =
    (length l.starts.items ≡ l.block-index + 1) × ((k : ℕ) → k ≤ l.block-index → get_or l.starts.items k 0 ≡ start_of l.blocks k) × (l.start ≡ start_of l.blocks l.block-index)
