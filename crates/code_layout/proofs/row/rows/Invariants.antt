use Rattle.std.proofs.Common.{◌≡◌, ◌++◌, drop}
use Rattle.code_layout.specs.Spelled.{HaveKeys}
use Rattle.code_layout.specs.Blocks.{start_of, rows_from, rows}
use Rattle.code_layout.proofs.row.rows.Given as goal

-- with the rows of the blocks that are left it is the whole
abbrev pub invariant-loop-i : goal.invariant-loop-i
invariant-loop-i l = HaveKeys l.all.items × (l.all.items ++ rows_from l.blocks (start_of l.blocks l.i) (drop l.i l.blocks) ≡ rows l.blocks)
