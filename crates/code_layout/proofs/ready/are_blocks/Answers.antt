use Rattle.std.proofs.Common.{arith}
use Rattle.code_layout.specs.Blocks.{IsBlock}
use Rattle.code_layout.proofs.Testing.{all_more, all_whole, all_of}
use Rattle.code_layout.proofs.ready.are_blocks.Goals as goal

pub returns-then-not-is_block : goal.returns-then-not-is_block
returns-then-not-is_block c = λ all. c.if-not-is_block.ensures (all_of (IsBlock c.args.count) c.args.blocks.now c.loop-block.block-index c.block-item.result _ (omega arith) c.block-item.is all)

pub loop-block-preserved : goal.loop-block-preserved
loop-block-preserved c = all_more (IsBlock c.args.count) c.args.blocks.now c.loop-block.block-index c.block-item.result _ (omega arith) c.block-item.is c.loop-block.invariant c.if-not-is_block.ensures

pub returns : goal.returns
returns c = all_whole (IsBlock c.args.count) c.args.blocks.now c.loop-block.block-index (omega arith) c.loop-block.invariant
