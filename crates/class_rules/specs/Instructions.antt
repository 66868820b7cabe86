-- The instructions of code as they are kept while it is judged.
use Rattle.std.specs.Prelude.{ℕ, ◌<◌, List, length}
use Rattle.opcode_table.specs.Spelling.{HasSwitch}
use Rattle.class_file.specs.Code.{Placed}
use Rattle.class_rules.specs.declared.instructions.Placed as kept

-- as the definition of code has it
abbrev pub as_placed : kept.Placed → Placed
as_placed p = record { pc = p.pc; insn = p.insn }

-- what is known of an instruction of the code: it stands in it, and so does its table where it is a switch
pub record StandsIn (code : List ℕ) (p : kept.Placed) : Type 0 where
  pub within : p.pc < length code
  pub switch : HasSwitch code p.insn
