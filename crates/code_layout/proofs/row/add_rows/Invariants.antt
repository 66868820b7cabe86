use Rattle.std.proofs.Common.{◌≡◌, ◌++◌, drop}
use Rattle.code_layout.specs.Spelled.{HaveKeys}
use Rattle.code_layout.specs.Blocks.{target_row, rows_of}
use Rattle.code_layout.proofs.row.add_rows.Given as goal

-- with the rows that are left it is the whole
abbrev pub invariant-loop-i : goal.invariant-loop-i
invariant-loop-i l =
    HaveKeys l.rows.items × (l.rows.items ++ rows_of (target_row l.blocks l.start l.block.labels) (drop l.i l.block.insns) (drop l.i l.block.targets)
    ≡ l.initial.rows.items ++ rows_of (target_row l.blocks l.start l.block.labels) l.block.insns l.block.targets)
