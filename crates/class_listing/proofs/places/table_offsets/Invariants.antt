use Rattle.std.proofs.Common.{◌≡◌, ◌∷◌}
use Rattle.opcode_table.specs.Decoding.{switch_default, table_offset}
use Rattle.class_file.specs.Code.{numbered}
use Rattle.class_listing.proofs.places.table_offsets.Given as goal

abbrev pub invariant-loop-i : goal.invariant-loop-i
invariant-loop-i l = l.found.items ≡ switch_default l.code l.table ∷ numbered l.i (table_offset l.code l.table)
