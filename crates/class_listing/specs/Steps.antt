-- The lines of a method's code: its instructions in order, and then its exception table (JVMS 4.7.3, 6.4).
use Rattle.std.specs.Prelude.{ℕ, ◌==◌, Bool, false, nat_lt, if◌then◌else◌, List, [], ◌∷◌, ◌++◌, length, map, Option, Some, None, Result, Ok, Err, ℤ, pos, negsuc, ◌+ℤ◌}
use Rattle.std.specs.List.{flat_map, list_any}
use Rattle.opcode_table.specs.declared.insn.Insn.{Insn}
use Rattle.opcode_table.specs.declared.fault.CodeFault.{CodeFault}
use Rattle.opcode_table.specs.Decoding.{switch_default, table_low, table_count, table_offset, pair_count, pair_key, pair_offset}
use Rattle.class_file.specs.declared.pool.PoolEntry.{PoolEntry}
use Rattle.class_file.specs.declared.pool.PoolEntry.TheVariants as entry
use Rattle.class_file.specs.declared.types.CodeAttr.{CodeAttr}
use Rattle.class_file.specs.declared.types.ExceptionEntry.{ExceptionEntry}
use Rattle.class_file.specs.Code.{Placed, instructions, numbered, offsets}
use Rattle.class_file.specs.Pool.{Reference, entry_at, text_at, field_at, method_at}
use Rattle.class_file.specs.Text.{within}
use Rattle.class_lines.specs.declared.line.Line.{Line}
use Rattle.class_lines.specs.declared.line.Operation.{Operation}
use Rattle.class_lines.specs.declared.line.Constant.{Constant}
use Rattle.class_lines.specs.declared.line.Case.{Case}
use Rattle.class_lines.specs.Words.{Text}
use Rattle.class_lines.specs.Lines.{is_constant}
use Rattle.class_listing.specs.Names.{shown, text_shown, class_shown, caught, interface_method_at, label}

-- ---- what a pool entry is written as

abbrev pub no_constant : Constant
no_constant = Constant.Class (shown None)

abbrev pub string_constant : Option Text → Constant
string_constant None = no_constant
string_constant (Some text) = Constant.Text text

-- a class, unless its name is written as another constant is
abbrev pub class_constant : Text → Constant
class_constant name = if is_constant (Constant.Class name) then Constant.Class name else no_constant

-- What `ldc` and `ldc_w` push. What they can't push is written as a class without a name.
abbrev pub constant_of : List PoolEntry → Option PoolEntry → Constant
constant_of pool (Some (entry.Integer n)) = Constant.Int n
constant_of pool (Some (entry.Float bits)) = Constant.Float bits
constant_of pool (Some (entry.String text)) = string_constant (text_at pool text)
constant_of pool (Some (entry.Class name)) = class_constant (text_shown pool name)
constant_of pool _ = no_constant

-- what `ldc2_w`, 20, pushes
abbrev pub wide_constant_of : Option PoolEntry → Operation
wide_constant_of (Some (entry.Long n)) = Operation.Long n
wide_constant_of (Some (entry.Double bits)) = Operation.Double bits
wide_constant_of _ = Operation.Constant 20 no_constant

abbrev pub member_of : ℕ → Option Reference → Operation
member_of op None = Operation.Member op (shown None) (shown None) (shown None)
member_of op (Some r) = Operation.Member op (shown (Some r.class)) (shown (Some r.member.name)) (shown (Some r.member.descriptor))

-- 18 and 19 are ldc and ldc_w, 20 is ldc2_w, 178 to 181 get and put fields, 182 to 184 call methods
abbrev pub pool_operation : List PoolEntry → ℕ → ℕ → Operation
pool_operation pool op index =
    if within 18 20 op then Operation.Constant op (constant_of pool (entry_at pool index)) else
    (if op == 20 then wide_constant_of (entry_at pool index) else
    (if within 178 182 op then member_of op (field_at pool index) else
    (if within 182 185 op then member_of op (method_at pool index) else
    Operation.Class op (class_shown pool index))))

-- ---- instructions

-- the label of the place at this distance from the instruction at pc
abbrev pub target : ℕ → ℤ → Text
target pc offset = label (pos pc +ℤ offset)

abbrev pub table_operation : List ℕ → ℕ → ℕ → Operation
table_operation code pc table =
    Operation.TableSwitch (table_low code table) (numbered (table_count code table) (λ i. target pc (table_offset code table i))) (target pc (switch_default code table))

abbrev pub case_at : List ℕ → ℕ → ℕ → ℕ → Case
case_at code pc table i = record { key = pair_key code table i; label = target pc (pair_offset code table i) }

abbrev pub lookup_operation : List ℕ → ℕ → ℕ → Operation
lookup_operation code pc table =
    Operation.LookupSwitch (numbered (pair_count code table) (case_at code pc table)) (target pc (switch_default code table))

-- An instruction at a place, with what its operands name. An index of a local, and what `iinc` adds, are written alike with and without `wide`.
abbrev pub operation_of : List PoolEntry → List ℕ → ℕ → Insn → Operation
operation_of pool code pc (Insn.Plain op) = Operation.Plain op
operation_of pool code pc (Insn.Bipush value) = Operation.Bipush value
operation_of pool code pc (Insn.Sipush value) = Operation.Sipush value
operation_of pool code pc (Insn.Local op index wide) = Operation.Local op index
operation_of pool code pc (Insn.Iinc index by wide) = Operation.Iinc index by
operation_of pool code pc (Insn.Pool op index) = pool_operation pool op index
operation_of pool code pc (Insn.Interface index count last) = member_of 185 (interface_method_at pool index)
operation_of pool code pc (Insn.NewArray array) = Operation.NewArray array
operation_of pool code pc (Insn.Multi index dims) = Operation.Multi (class_shown pool index) dims
operation_of pool code pc (Insn.Branch op offset) = Operation.Branch op (target pc offset)
operation_of pool code pc (Insn.TableSwitch table) = table_operation code pc table
operation_of pool code pc (Insn.LookupSwitch table) = lookup_operation code pc table

-- ---- labels

-- where an instruction may lead, but for the next one
abbrev pub leads_to : List ℕ → Placed → List ℤ
leads_to code p = map (λ (offset : ℤ). pos p.pc +ℤ offset) (offsets code p.insn)

abbrev pub bounds_of : ExceptionEntry → List ℤ
bounds_of e = pos e.start ∷ pos e.end ∷ pos e.handler ∷ []

-- the places that instructions and the exception table name
abbrev pub named_places : List ℕ → List Placed → List ExceptionEntry → List ℤ
named_places code insns entries = flat_map (leads_to code) insns ++ flat_map bounds_of entries

abbrev pub is_at : ℕ → ℤ → Bool
is_at pc (pos place) = place == pc
is_at pc (negsuc n) = false

-- a place has a label where it is named
abbrev pub label_at : List ℤ → ℕ → Option Text
label_at places pc = if list_any (is_at pc) places then Some (label (pos pc)) else None

-- ---- lines

abbrev pub step : List PoolEntry → List ℕ → List ℤ → Placed → Line
step pool code places p = Line.Step (label_at places p.pc) (operation_of pool code p.pc p.insn)

abbrev pub catch_line : List PoolEntry → ExceptionEntry → Line
catch_line pool e = Line.Catch (label (pos e.start)) (label (pos e.end)) (label (pos e.handler)) (caught pool e.catch_type)

-- the lines of code with these instructions
abbrev pub lines_of : List PoolEntry → CodeAttr → List Placed → List Line
lines_of pool c insns = map (step pool c.code (named_places c.code insns c.entries)) insns ++ map (catch_line pool) c.entries

-- the instructions, unless some place has none
abbrev pub found : Result (List Placed) CodeFault → Option (List Placed)
found (Ok insns) = Some insns
found (Err fault) = None

-- the instructions of code of at most 65535 bytes, if each place where one ends has another
abbrev pub insns_of : List ℕ → Option (List Placed)
insns_of code = if nat_lt (length code) 0x10000 then found (instructions code) else None
