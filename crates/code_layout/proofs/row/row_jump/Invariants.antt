use Rattle.std.proofs.Common.{◌≡◌, take, map}
use Rattle.code_layout.specs.Blocks.{target_row}
use Rattle.code_layout.proofs.row.row_jump.Given as goal

abbrev pub invariant-loop-target : goal.invariant-loop-target
invariant-loop-target l = l.to.items ≡ map (target_row l.blocks l.start l.block.labels) (take l.target-index l.target-items)
