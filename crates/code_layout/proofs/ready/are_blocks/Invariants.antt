use Rattle.std.proofs.Common.{take}
use Rattle.std.specs.List.{AllByRecursion}
use Rattle.code_layout.specs.Blocks.{IsBlock}
use Rattle.code_layout.proofs.ready.are_blocks.Given as goal

abbrev pub invariant-loop-block : goal.invariant-loop-block
invariant-loop-block l = AllByRecursion (IsBlock l.count) (take l.block-index l.blocks)
