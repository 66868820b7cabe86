-- A table with the number of the instruction that begins at each place, and what is found by it.
use Rattle.std.specs.Prelude.{◌≡◌, ℕ, ◌+◌, ◌-◌, ◌<◌, ◌≤◌, ◌==◌, Bool, true, false, if◌then◌else◌, List, [], ◌∷◌, ◌++◌, length, map, slice_get, Option, Some, None, Result, Ok, Err, ℤ, pos, negsuc, ◌+ℤ◌}
use Rattle.std.specs.Option.{option_map}
use Rattle.std.specs.List.{filter_map, AllZip, AllByRecursion, Any}
use Rattle.opcode_table.specs.declared.fault.CodeFault.{CodeFault}
use Rattle.opcode_table.specs.Table.{joined}
use Rattle.opcode_table.specs.Spelling.{HasSwitch}
use Rattle.class_file.specs.declared.types.ExceptionEntry.{ExceptionEntry}
use Rattle.class_file.specs.declared.types.LineRow.{LineRow}
use Rattle.class_file.specs.declared.types.VariableRow.{VariableRow}
use Rattle.class_file.specs.declared.types.CodeAttribute.{CodeAttribute}
use Rattle.class_file.specs.declared.types.CodeContent.{CodeContent}
use Rattle.class_file.specs.declared.types.CodeContent.TheVariants as content
use Rattle.class_file.specs.Code.{Placed, instructions, offsets, is_start}
use Rattle.code_layout.specs.declared.method_code.Jump.{Jump}
use Rattle.code_layout.specs.declared.method_code.CodeEntry.{CodeEntry}
use Rattle.code_layout.specs.declared.method_code.Line.{Line}
use Rattle.code_layout.specs.declared.method_code.LineTable.{LineTable}
use Rattle.code_layout.specs.declared.method_code.Variable.{Variable}
use Rattle.code_layout.specs.declared.method_code.VariableTable.{VariableTable}
use Rattle.code_layout.specs.declared.fault.TakeApartFault.{TakeApartFault}
use Rattle.code_layout.specs.declared.fault.TakeApartFault.TheVariants as faults
use Rattle.code_layout.specs.declared.walk.Step.{Step}
use Rattle.code_layout.specs.Apart.{number_of, keys_of}

-- ---- the table

abbrev pub placed_of : Step → Placed
placed_of s = record { pc = s.pc; insn = s.insn }

-- the number of the instruction that begins at the place, if one does
abbrev pub start_number : List Placed → ℕ → Option ℕ
start_number insns place = if is_start insns place then Some (number_of insns place) else None

-- what a table of numbers has at a place
abbrev pub start_by : List (Option ℕ) → ℕ → Option ℕ
start_by numbers place = joined (slice_get numbers place)

-- the table has the number of each instruction at its place, a row for each byte of the code, and the instructions are in the code
pub record AreNumbers (insns : List Placed) (code : List ℕ) (numbers : List (Option ℕ)) : Type 0 where
  pub each : (place : ℕ) → start_by numbers place ≡ start_number insns place
  pub rows : length numbers ≡ length code
  pub within : AllByRecursion (λ (p : Placed). p.pc < length code) insns

-- the code's instructions, with their tables where they are switches, and the table of their numbers
pub record AreSteps (code : List ℕ) (steps : List Step) (numbers : List (Option ℕ)) : Type 0 where
  pub insns : instructions code ≡ Ok (map placed_of steps)
  pub table : AreNumbers (map placed_of steps) code numbers
  pub switches : AllByRecursion (λ (s : Step). HasSwitch code s.insn) steps
  pub few : length steps ≤ length code

-- the fault is of this kind, or memory ran out
abbrev pub FaultIs : (CodeFault → Type 0) → (ℕ → Type 0) → TakeApartFault → Type 0
FaultIs P Q (faults.Code fault) = P fault
FaultIs P Q (faults.Target pc) = Q pc
FaultIs P Q faults.Memory = Unit {0}

-- ---- jumps

abbrev pub number_at : List (Option ℕ) → ℤ → Option ℕ
number_at numbers (pos place) = start_by numbers place
number_at numbers (negsuc n) = None

abbrev pub IsTarget : List (Option ℕ) → ℕ → ℤ → ℕ → Type 0
IsTarget numbers pc offset number = number_at numbers (pos pc +ℤ offset) ≡ Some number

abbrev pub IsAstray : List (Option ℕ) → ℕ → ℤ → Type 0
IsAstray numbers pc offset = number_at numbers (pos pc +ℤ offset) ≡ None

pub record IsJump (code : List ℕ) (numbers : List (Option ℕ)) (step : Step) (jump : Jump ℕ) : Type 0 where
  pub keys : jump.keys ≡ keys_of code step.insn
  pub to : AllZip (IsTarget numbers step.pc) (offsets code step.insn) jump.to

abbrev pub LeadsAstray : List ℕ → List (Option ℕ) → Step → Type 0
LeadsAstray code numbers step = Any (IsAstray numbers step.pc) (offsets code step.insn)

-- each step up to number i has its jump, and step i leads astray
pub record FirstAstray (code : List ℕ) (numbers : List (Option ℕ)) (steps : List Step) (pc : ℕ) : Type 0 where
  pub before : List Step
  pub step : Step
  pub behind : List Step
  pub all : steps ≡ before ++ step ∷ behind
  pub jumps : List (Jump ℕ)
  pub well : AllZip (IsJump code numbers) before jumps
  pub astray : LeadsAstray code numbers step
  pub place : pc ≡ step.pc

-- ---- the tables

-- the number of the instruction that begins at a place, or that of all at the code's end
abbrev pub bound_by : List (Option ℕ) → ℕ → ℕ → Option ℕ
bound_by numbers count place = if place == length numbers then Some count else start_by numbers place

abbrev pub or_target : Option ℕ → ℕ → Result ℕ TakeApartFault
or_target (Some number) place = Ok number
or_target None place = Err (faults.Target place)

abbrev pub and_then : {X : Type 0} → Result ℕ TakeApartFault → (ℕ → Result X TakeApartFault) → Result X TakeApartFault
and_then (Ok number) next = next number
and_then (Err fault) next = Err fault

abbrev pub entry_by : List (Option ℕ) → ℕ → ExceptionEntry → Result CodeEntry TakeApartFault
entry_by numbers count e =
    and_then (or_target (start_by numbers e.start) e.start) (λ start.
    and_then (or_target (bound_by numbers count e.end) e.end) (λ end.
    and_then (or_target (start_by numbers e.handler) e.handler) (λ handler.
    Ok (record { start = start; end = end; handler = handler; catch_type = e.catch_type }))))

-- each entry up to one is found, and that one names this place, where no instruction begins
pub record FirstStray (numbers : List (Option ℕ)) (count : ℕ) (entries : List ExceptionEntry) (place : ℕ) : Type 0 where
  pub before : List ExceptionEntry
  pub entry : ExceptionEntry
  pub behind : List ExceptionEntry
  pub all : entries ≡ before ++ entry ∷ behind
  pub found : List CodeEntry
  pub well : AllZip (λ (e : ExceptionEntry) x. entry_by numbers count e ≡ Ok x) before found
  pub stray : entry_by numbers count entry ≡ Err (faults.Target place)

abbrev pub line_by : List (Option ℕ) → LineRow → Option Line
line_by numbers row = option_map (λ (start : ℕ). let line : Line = record { start = start; line = row.line } in line) (start_by numbers row.start)

abbrev pub variable_from : VariableRow → Option ℕ → Option ℕ → Option Variable
variable_from row (Some start) (Some end) = Some (record { start = start; end = end; name = row.name; descriptor = row.descriptor; index = row.index })
variable_from row _ _ = None

abbrev pub variable_by : List (Option ℕ) → ℕ → VariableRow → Option Variable
variable_by numbers count row = variable_from row (start_by numbers row.start) (bound_by numbers count (row.start + row.length))

abbrev pub lines_by : List (Option ℕ) → ℕ → CodeContent → Option LineTable
lines_by numbers name (content.LineNumberTable rows) = Some (record { name = name; rows = filter_map (line_by numbers) rows })
lines_by numbers name _ = None

abbrev pub variables_by : List (Option ℕ) → ℕ → ℕ → CodeContent → Option VariableTable
variables_by numbers count name (content.LocalVariableTable rows) = Some (record { name = name; generic = false; rows = filter_map (variable_by numbers count) rows })
variables_by numbers count name (content.LocalVariableTypeTable rows) = Some (record { name = name; generic = true; rows = filter_map (variable_by numbers count) rows })
variables_by numbers count name _ = None
