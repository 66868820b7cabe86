-- The code of a method by instruction numbers, and the first place where it has none (JVMS 4.7.3).
use Rattle.std.specs.Prelude.{◌≡◌, ℕ, ◌+◌, ◌==◌, Bool, true, false, ◌&&◌, ◌||◌, List, [], map, filter, length, Option, Some, None, Result, Ok, Err, nat_lt, ℤ, pos, ◌+ℤ◌, unsigned_abs}
use Rattle.std.specs.List.{count_by, filter_map}
use Rattle.opcode_table.specs.declared.insn.Insn.{Insn}
use Rattle.opcode_table.specs.declared.fault.CodeFault.{CodeFault}
use Rattle.opcode_table.specs.Decoding.{table_count, table_low, pair_count, pair_key}
use Rattle.class_file.specs.declared.types.CodeAttr.{CodeAttr}
use Rattle.class_file.specs.declared.types.ExceptionEntry.{ExceptionEntry}
use Rattle.class_file.specs.declared.types.LineRow.{LineRow}
use Rattle.class_file.specs.declared.types.VariableRow.{VariableRow}
use Rattle.class_file.specs.declared.types.CodeAttribute.{CodeAttribute}
use Rattle.class_file.specs.declared.types.CodeContent.{CodeContent}
use Rattle.class_file.specs.declared.types.CodeContent.TheVariants as content
use Rattle.class_file.specs.Code.{Placed, instructions, numbered, offsets, is_start, leads_well, or_else, first_failing, first_stray}
use Rattle.code_layout.specs.declared.method_code.Jump.{Jump}
use Rattle.code_layout.specs.declared.method_code.CodeEntry.{CodeEntry}
use Rattle.code_layout.specs.declared.method_code.Line.{Line}
use Rattle.code_layout.specs.declared.method_code.LineTable.{LineTable}
use Rattle.code_layout.specs.declared.method_code.Variable.{Variable}
use Rattle.code_layout.specs.declared.method_code.VariableTable.{VariableTable}
use Rattle.code_layout.specs.declared.method_code.MethodCode.{MethodCode}
use Rattle.code_layout.specs.declared.fault.TakeApartFault.{TakeApartFault}
use Rattle.code_layout.specs.declared.fault.TakeApartFault.TheVariants as faults

-- ---- instructions

-- The number of the instruction at a place: how many stand before it. The code's end has the number of all.
abbrev pub number_of : List Placed → ℕ → ℕ
number_of insns pc = count_by (λ p. nat_lt p.pc pc) insns

-- the number of the instruction at this distance from another
abbrev pub target_of : List Placed → Placed → ℤ → ℕ
target_of insns p offset = number_of insns (unsigned_abs (pos p.pc +ℤ offset))

-- the keys of a switch: each number from low to high, or those of its pairs
abbrev pub keys_of : List ℕ → Insn → List ℤ
keys_of code (Insn.TableSwitch table) = numbered (table_count code table) (λ i. table_low code table +ℤ pos i)
keys_of code (Insn.LookupSwitch table) = numbered (pair_count code table) (pair_key code table)
keys_of code _ = []

-- where an instruction may lead, but for the next one
abbrev pub jump_of : List ℕ → List Placed → Placed → Jump ℕ
jump_of code insns p = record { keys = keys_of code p.insn; to = map (target_of insns p) (offsets code p.insn) }

-- ---- the tables

abbrev pub entry_of : List Placed → ExceptionEntry → CodeEntry
entry_of insns e = record { start = number_of insns e.start; end = number_of insns e.end; handler = number_of insns e.handler; catch_type = e.catch_type }

-- an instruction begins there, or the code ends there
abbrev pub is_bound : List ℕ → List Placed → ℕ → Bool
is_bound code insns pc = is_start insns pc || pc == length code

-- a line is kept where an instruction begins
abbrev pub keeps_line : List Placed → LineRow → Bool
keeps_line insns row = is_start insns row.start

abbrev pub line_of : List Placed → LineRow → Line
line_of insns row = record { start = number_of insns row.start; line = row.line }

-- a variable is kept where an instruction begins at its start, and its end is a bound of one
abbrev pub keeps_variable : List ℕ → List Placed → VariableRow → Bool
keeps_variable code insns row = is_start insns row.start && is_bound code insns (row.start + row.length)

abbrev pub variable_of : List Placed → VariableRow → Variable
variable_of insns row = record {
  start = number_of insns row.start;
  end = number_of insns (row.start + row.length);
  name = row.name;
  descriptor = row.descriptor;
  index = row.index;
}

abbrev pub lines_of : List Placed → List LineRow → List Line
lines_of insns rows = map (line_of insns) (filter (keeps_line insns) rows)

abbrev pub variables_of : List ℕ → List Placed → List VariableRow → List Variable
variables_of code insns rows = map (variable_of insns) (filter (keeps_variable code insns) rows)

-- the attribute as a table of lines, if it is one
abbrev pub lines_in : List Placed → ℕ → CodeContent → Option LineTable
lines_in insns name (content.LineNumberTable rows) = Some (record { name = name; rows = lines_of insns rows })
lines_in insns name _ = None

-- the attribute as a table of local variables, if it is one
abbrev pub variables_in : List ℕ → List Placed → ℕ → CodeContent → Option VariableTable
variables_in code insns name (content.LocalVariableTable rows) = Some (record { name = name; generic = false; rows = variables_of code insns rows })
variables_in code insns name (content.LocalVariableTypeTable rows) = Some (record { name = name; generic = true; rows = variables_of code insns rows })
variables_in code insns name _ = None

-- ---- the whole

-- the code of these instructions by their numbers
abbrev pub method_code : CodeAttr → List Placed → MethodCode
method_code c insns = record {
  insns = map (λ (p : Placed). p.insn) insns;
  targets = map (jump_of c.code insns) insns;
  entries = map (entry_of insns) c.entries;
  lines = filter_map (λ (a : CodeAttribute). lines_in insns a.name a.content) c.attributes;
  variables = filter_map (λ (a : CodeAttribute). variables_in c.code insns a.name a.content) c.attributes;
  max_stack = c.max_stack;
  max_locals = c.max_locals;
}

-- The first place that leads astray: of a branch or switch, else in the exception table.
abbrev pub first_astray : CodeAttr → List Placed → Option ℕ
first_astray c insns = or_else (first_failing (leads_well c.code insns) insns) (first_stray c.code insns c.entries)

abbrev pub unless_astray : Option ℕ → MethodCode → Result MethodCode TakeApartFault
unless_astray None whole = Ok whole
unless_astray (Some pc) whole = Err (faults.Target pc)

abbrev pub apart_of : CodeAttr → Result (List Placed) CodeFault → Result MethodCode TakeApartFault
apart_of c (Err fault) = Err (faults.Code fault)
apart_of c (Ok insns) = unless_astray (first_astray c insns) (method_code c insns)

-- the code by instruction numbers, or why it has none
abbrev pub apart : CodeAttr → Result MethodCode TakeApartFault
apart c = apart_of c (instructions c.code)

-- ---- the answer

-- the answer of a call is this one, unless memory ran out
abbrev pub Gives : {X : Type 0} → Result X TakeApartFault → Result X TakeApartFault → Type 0
Gives (Ok x) wanted = wanted ≡ Ok x
Gives (Err faults.Memory) wanted = Unit {0}
Gives (Err fault) wanted = wanted ≡ Err fault
