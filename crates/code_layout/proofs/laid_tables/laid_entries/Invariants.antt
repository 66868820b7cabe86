use Rattle.std.proofs.Common.{◌≡◌, ◌++◌, take, drop}
use Rattle.std.specs.Prelude.{map}
use Rattle.code_layout.specs.Blocks.{start_of}
use Rattle.code_layout.specs.Laid.{own_entries_from, old_entry}
use Rattle.code_layout.specs.Spelled.{place_in}
use Rattle.code_layout.proofs.laid_tables.laid_entries.Given as goal

-- with the entries of the blocks that are left it is all own ones
abbrev pub invariant-loop-i : goal.invariant-loop-i
invariant-loop-i l = l.laid.items ++ own_entries_from (place_in l.places) l.blocks (start_of l.blocks l.i) (drop l.i l.blocks) ≡ own_entries_from (place_in l.places) l.blocks 0 l.blocks

abbrev pub invariant-loop-entry : goal.invariant-loop-entry
invariant-loop-entry l = l.laid.items ≡ own_entries_from (place_in l.places) l.blocks 0 l.blocks ++ map (old_entry (place_in l.places) l.blocks) (take l.entry-index l.entries)
