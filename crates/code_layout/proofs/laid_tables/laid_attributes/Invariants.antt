use Rattle.std.proofs.Common.{◌≡◌, ◌++◌, take}
use Rattle.std.specs.Prelude.{map}
use Rattle.code_layout.specs.Laid.{line_attribute, variable_attribute}
use Rattle.code_layout.specs.Spelled.{place_in}
use Rattle.code_layout.proofs.laid_tables.laid_attributes.Given as goal

abbrev pub invariant-loop-table : goal.invariant-loop-table
invariant-loop-table l = l.laid.items ≡ map (line_attribute (place_in l.places) l.blocks) (take l.table-index l.lines)

abbrev pub invariant-loop-table-2 : goal.invariant-loop-table-2
invariant-loop-table-2 l = l.laid.items ≡ map (line_attribute (place_in l.places) l.blocks) l.lines ++ map (variable_attribute (place_in l.places) l.blocks) (take l.table-index l.variables)
