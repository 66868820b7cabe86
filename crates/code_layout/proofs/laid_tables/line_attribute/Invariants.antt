use Rattle.std.proofs.Common.{◌≡◌, take}
use Rattle.std.specs.Prelude.{map}
use Rattle.code_layout.specs.Laid.{line_row}
use Rattle.code_layout.specs.Spelled.{place_in}
use Rattle.code_layout.proofs.laid_tables.line_attribute.Given as goal

abbrev pub invariant-loop-row : goal.invariant-loop-row
invariant-loop-row l = l.rows.items ≡ map (line_row (place_in l.places) l.blocks) (take l.row-index l.row-items)
