use Rattle.std.proofs.Common.{◌≡◌, ◌+◌, drop}
use Rattle.code_layout.specs.Laid.{own_count, entry_count}
use Rattle.code_layout.proofs.layout.entry_count.Given as goal

abbrev pub invariant-loop-block : goal.invariant-loop-block
invariant-loop-block l = l.count + own_count (drop l.block-index l.blocks) ≡ entry_count l.blocks l.old
