use Rattle.std.proofs.Common.{◌≡◌, drop}
use Rattle.std.specs.Prelude.{map}
use Rattle.code_layout.specs.declared.block.Block.{Block}
use Rattle.code_layout.specs.Laid.{greatest}
use Rattle.code_layout.proofs.layout.greatest_locals.Given as goal

abbrev pub invariant-loop-block : goal.invariant-loop-block
invariant-loop-block l = greatest l.locals (map (λ (b : Block). b.locals) (drop l.block-index l.blocks)) ≡ greatest l.old.max_locals (map (λ (b : Block). b.locals) l.blocks)
