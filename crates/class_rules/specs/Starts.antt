-- Marks of the places at which instructions stand.
use Rattle.std.specs.Prelude.{◌≡◌, ℕ, Bool, false, List, Result, Ok, Err, slice_index_or}
use Rattle.opcode_table.specs.declared.fault.CodeFault.{CodeFault}
use Rattle.class_file.specs.Code.{Placed, is_start}
use Rattle.class_rules.specs.declared.starts.Starts.{Starts}

-- there is a mark at the place, and it is set
abbrev pub is_marked : List Bool → ℕ → Bool
is_marked marks pc = slice_index_or marks pc false

-- the marks are set where the instructions stand, and nowhere else
abbrev pub Marks : Starts → List Placed → Type 0
Marks starts insns = (pc : ℕ) → is_marked starts.marks.items pc ≡ is_start insns pc

-- the marks of the instructions, or why there are none
abbrev pub Finds : Result Starts CodeFault → Result (List Placed) CodeFault → Type 0
Finds (Ok starts) (Ok insns) = Marks starts insns
Finds (Err fault) (Err other) = fault ≡ other
Finds _ _ = ⊥
