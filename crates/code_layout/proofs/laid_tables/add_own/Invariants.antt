use Rattle.std.proofs.Common.{◌≡◌, ◌++◌, take}
use Rattle.std.specs.Prelude.{map}
use Rattle.code_layout.specs.Laid.{own_entry}
use Rattle.code_layout.specs.Spelled.{place_in}
use Rattle.code_layout.proofs.laid_tables.add_own.Given as goal

abbrev pub invariant-loop-entry : goal.invariant-loop-entry
invariant-loop-entry l = l.out.items ≡ l.initial.out.items ++ map (own_entry (place_in l.places) l.blocks l.start l.block.labels) (take l.entry-index l.entry-items)
