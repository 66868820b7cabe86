-- A row of the code's table, as the opcode that it stands for.
use Rattle.std.specs.Prelude.{List, map, Option}
use Rattle.std.specs.Option.{option_map}
use Rattle.opcode_table.specs.declared.table.Opcode as declared
use Rattle.opcode_table.specs.Table.{Opcode}

abbrev pub entry_of : declared.Opcode → Opcode
entry_of o = record { mnemonic = o.0.now; form = o.1 }

abbrev pub entries_of : List (Option declared.Opcode) → List (Option Opcode)
entries_of rows = map (λ row. option_map entry_of row) rows
