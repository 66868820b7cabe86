-- Instructions that were found in some code, and a table of the places that are named.
use Rattle.std.specs.Prelude.{◌≡◌, ℕ, ◌<◌, Bool, false, List, length, get_or, ℤ}
use Rattle.std.specs.List.{list_any}
use Rattle.opcode_table.specs.Spelling.{HasSwitch}
use Rattle.class_file.specs.Code.{Placed}
use Rattle.class_listing.specs.declared.walk.Step.{Step}
use Rattle.class_listing.specs.Steps.{is_at}

abbrev pub placed_of : Step → Placed
placed_of s = record { pc = s.pc; insn = s.insn }

-- it stands in the code, with its table where it is a switch
pub record IsStep (code : List ℕ) (s : Step) : Type 0 where
  pub within : s.pc < length code
  pub switch : HasSwitch code s.insn

-- the table says of each place in the code whether it is named
pub record AreMarks (size : ℕ) (places : List ℤ) (marks : List Bool) : Type 0 where
  pub rows : length marks ≡ size
  pub each : (pc : ℕ) → pc < size → get_or marks pc false ≡ list_any (is_at pc) places
