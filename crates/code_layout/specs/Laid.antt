-- The code that blocks are laid out as (JVMS 4.7.3, 6.4).
use Rattle.std.specs.Prelude.{◌≡◌, ℕ, zero, suc, ◌+◌, ◌-◌, ◌*◌, ◌^◌, ◌<◌, ◌≤◌, ◌==◌, min, max, Bool, true, false, if◌then◌else◌, List, [], ◌∷◌, ◌++◌, length, map, get_or, Option, Some, Result, Ok, Err, slice_get, ℤ, pos, ◌+ℤ◌}
use Rattle.opcode_table.specs.declared.insn.Insn.{Insn}
use Rattle.opcode_table.specs.declared.insn.Insn.TheVariants as insn
use Rattle.opcode_table.specs.Decoding.{Decoded, decoded}
use Rattle.class_file.specs.declared.types.CodeAttr.{CodeAttr}
use Rattle.class_file.specs.declared.types.ExceptionEntry.{ExceptionEntry}
use Rattle.class_file.specs.declared.types.LineRow.{LineRow}
use Rattle.class_file.specs.declared.types.VariableRow.{VariableRow}
use Rattle.class_file.specs.declared.types.CodeAttribute.{CodeAttribute}
use Rattle.class_file.specs.declared.types.CodeContent.{CodeContent}
use Rattle.class_file.specs.declared.types.CodeContent.TheVariants as content
use Rattle.class_file.specs.Code.{offsets}
use Rattle.code_layout.specs.declared.method_code.Jump.{Jump}
use Rattle.code_layout.specs.declared.method_code.CodeEntry.{CodeEntry}
use Rattle.code_layout.specs.declared.method_code.Line.{Line}
use Rattle.code_layout.specs.declared.method_code.LineTable.{LineTable}
use Rattle.code_layout.specs.declared.method_code.Variable.{Variable}
use Rattle.code_layout.specs.declared.method_code.VariableTable.{VariableTable}
use Rattle.code_layout.specs.declared.method_code.MethodCode.{MethodCode}
use Rattle.code_layout.specs.declared.block.Block.{Block}
use Rattle.code_layout.specs.declared.block.BlockEntry.{BlockEntry}
use Rattle.code_layout.specs.declared.block.BlockTarget.{BlockTarget}
use Rattle.code_layout.specs.declared.layout_fault.LayoutFault.{LayoutFault}
use Rattle.code_layout.specs.declared.layout_fault.LayoutFault.TheVariants as faults
use Rattle.code_layout.specs.declared.row.Row.{Row}
use Rattle.code_layout.specs.Apart.{keys_of}
use Rattle.code_layout.specs.Blocks.{start_of, target_row, row_in, rows}
use Rattle.code_layout.specs.Places.{goto_w, wide_jump, is_test, opposite, place_of, end_of, AreWidened, most_bytes_insn, is_switch}

-- ---- instructions

-- the instruction without its offset or the place of its table
abbrev pub bare : Insn → Insn
bare (insn.Branch op offset) = insn.Branch op (pos 0)
bare (insn.TableSwitch table) = insn.TableSwitch 0
bare (insn.LookupSwitch table) = insn.LookupSwitch 0
bare insn = insn

-- At pc stands this instruction, but for its offset or table, with these keys; it leads to these places, and falls to the next one.
pub record Stands (code : List ℕ) (pc next : ℕ) (insn : Insn) (keys : List ℤ) (targets : List ℕ) : Type 0 where
  pub found : Insn
  pub size : ℕ
  pub decodes : decoded code pc ≡ Ok (found, size)
  pub same : bare found ≡ bare insn
  pub with_keys : keys_of code found ≡ keys
  pub leads : map (λ offset. pos pc +ℤ offset) (offsets code found) ≡ map pos targets
  pub falls : pc + size ≡ next

abbrev pub branch : ℕ → Insn
branch op = insn.Branch op (pos 0)

-- the opposite test leads past a goto_w, which leads to the target
pub record StandsOver (code : List ℕ) (pc next op : ℕ) (targets : List ℕ) : Type 0 where
  pub test : Stands code pc (pc + 3) (branch (opposite op)) [] (next ∷ [])
  pub over : Stands code (pc + 3) next (branch goto_w) [] targets

-- A widened goto is a goto_w, a widened jsr is a jsr_w, and a widened test is the opposite test over a goto_w.
abbrev pub StandsWidened : Bool → List ℕ → ℕ → ℕ → ℕ → List ℕ → Type 0
StandsWidened true code pc next op targets = StandsOver code pc next op targets
StandsWidened false code pc next op targets = Stands code pc next (branch (wide_jump op)) [] targets

abbrev pub StandsWide : List ℕ → ℕ → ℕ → Insn → List ℕ → Type 0
StandsWide code pc next (insn.Branch op offset) targets = StandsWidened (is_test op) code pc next op targets
StandsWide code pc next _ targets = ⊥

-- the row stands at its place, with its targets mapped, and falls to the next row's
abbrev pub RowStands : List ℕ → (ℕ → ℕ) → ℕ → Bool → Row → Type 0
RowStands code place i true row = StandsWide code (place i) (place (i + 1)) row.insn (map place row.jump.to)
RowStands code place i false row = Stands code (place i) (place (i + 1)) row.insn row.jump.keys (map place row.jump.to)

-- ---- tables

module _ (place : ℕ → ℕ) (blocks : List Block) where
  -- the place where the block of an old instruction begins; that of the number of all is where the code ends
  abbrev pub old_place : ℕ → ℕ
  old_place n = place (start_of blocks n)

  -- a bound of an entry of its own of the block whose first row is `start`
  abbrev pub bound_place : ℕ → Bool → ℕ → ℕ
  bound_place start true n = old_place n
  bound_place start false n = place (start + n)

  abbrev pub own_entry : ℕ → List ℕ → BlockEntry → ExceptionEntry
  own_entry start labels e = record {
    start = bound_place start e.old_range e.start;
    end = bound_place start e.old_range e.end;
    handler = place (target_row blocks start labels e.handler);
    catch_type = e.catch_type;
  }

  abbrev pub own_entries_from : ℕ → List Block → List ExceptionEntry
  own_entries_from start [] = []
  own_entries_from start (b ∷ others) = map (own_entry start b.labels) b.entries ++ own_entries_from (start + length b.insns) others

  -- the range of an old entry covers whole blocks
  abbrev pub old_entry : CodeEntry → ExceptionEntry
  old_entry e = record { start = old_place e.start; end = old_place e.end; handler = old_place e.handler; catch_type = e.catch_type }

  -- first the blocks' own entries, in the order of the blocks, then the old ones
  abbrev pub entries_of : List CodeEntry → List ExceptionEntry
  entries_of entries = own_entries_from 0 blocks ++ map old_entry entries

  abbrev pub line_row : Line → LineRow
  line_row row = record { start = old_place row.start; line = row.line }

  abbrev pub variable_row : Variable → VariableRow
  variable_row row = record {
    start = old_place row.start;
    length = old_place row.end - old_place row.start;
    name = row.name;
    descriptor = row.descriptor;
    index = row.index;
  }

  abbrev pub line_attribute : LineTable → CodeAttribute
  line_attribute t = record { name = t.name; content = content.LineNumberTable (map line_row t.rows) }

  abbrev pub variable_attribute : VariableTable → CodeAttribute
  variable_attribute t = record {
    name = t.name;
    content = if t.generic then content.LocalVariableTypeTable (map variable_row t.rows) else content.LocalVariableTable (map variable_row t.rows);
  }

  -- the tables of lines, and then those of local variables
  abbrev pub attributes_of : List LineTable → List VariableTable → List CodeAttribute
  attributes_of lines variables = map line_attribute lines ++ map variable_attribute variables

-- how many entries the blocks have of their own
abbrev pub own_count : List Block → ℕ
own_count [] = 0
own_count (b ∷ blocks) = length b.entries + own_count blocks

abbrev pub entry_count : List Block → MethodCode → ℕ
entry_count blocks old = own_count blocks + length old.entries

abbrev pub greatest : ℕ → List ℕ → ℕ
greatest n [] = n
greatest n (m ∷ others) = greatest (max n m) others

-- ---- bounds

-- how many bytes the instructions have at most, with each branch widened and without padding
abbrev pub most_bytes_of : {T : Type 0} → List Insn → List (Jump T) → ℕ
most_bytes_of [] jumps = 0
most_bytes_of (i ∷ insns) [] = 0
most_bytes_of (i ∷ insns) (j ∷ jumps) = most_bytes_insn i (length j.keys) + most_bytes_of insns jumps

abbrev pub switches_of : List Insn → ℕ
switches_of [] = 0
switches_of (i ∷ insns) = (if is_switch i then 1 else 0) + switches_of insns

-- the same of blocks
abbrev pub most_bytes : List Block → ℕ
most_bytes [] = 0
most_bytes (b ∷ blocks) = most_bytes_of b.insns b.targets + most_bytes blocks

abbrev pub switches : List Block → ℕ
switches [] = 0
switches (b ∷ blocks) = switches_of b.insns + switches blocks

-- ---- the whole

-- The code that the blocks are laid out as, in the place of old code.
pub record IsLaidOut (blocks : List Block) (old : MethodCode) (code : CodeAttr) : Type 0 where
  -- which branches are wide
  pub wide : List Bool
  pub widened : AreWidened (rows blocks) wide
  -- each row stands at its place
  pub stands : (i : ℕ) (row : Row) → slice_get (rows blocks) i ≡ Some row → RowStands code.code (place_of (rows blocks) wide) i (get_or wide i false) row
  -- so each instruction of a block stands at the place of its position in the block
  pub at : (k p : ℕ) (b : Block) (i : Insn) (j : Jump BlockTarget) → slice_get blocks k ≡ Some b → slice_get b.insns p ≡ Some i → slice_get b.targets p ≡ Some j
      → RowStands code.code (place_of (rows blocks) wide) (start_of blocks k + p) (get_or wide (start_of blocks k + p) false) (row_in blocks (start_of blocks k) b.labels i j)
  pub ends : length code.code ≡ end_of (rows blocks) wide
  pub fits : length code.code < 2 ^ 16
  -- places rise with rows
  pub rises : (i j : ℕ) → i < j → place_of (rows blocks) wide i < place_of (rows blocks) wide j
  pub entries : code.entries ≡ entries_of (place_of (rows blocks) wide) blocks old.entries
  pub few : length code.entries < 2 ^ 16
  pub attributes : code.attributes ≡ attributes_of (place_of (rows blocks) wide) blocks old.lines old.variables
  pub stack : code.max_stack ≡ greatest old.max_stack (map (λ (b : Block). b.stack) blocks)
  pub locals : code.max_locals ≡ greatest old.max_locals (map (λ (b : Block). b.locals) blocks)

-- ---- refusals

-- the length as the blocks are laid out
pub record IsLength (blocks : List Block) (n : ℕ) : Type 0 where
  pub wide : List Bool
  pub widened : AreWidened (rows blocks) wide
  pub is : n ≡ end_of (rows blocks) wide

pub record PassesLength (blocks : List Block) (n : ℕ) : Type 0 where
  pub is : IsLength blocks n
  pub long : 2 ^ 16 ≤ n

-- the length fits, and there are so many entries
pub record PassesEntries (blocks : List Block) (old : MethodCode) (n : ℕ) : Type 0 where
  pub length : ℕ
  pub is : IsLength blocks length
  pub fits : length < 2 ^ 16
  pub count : n ≡ entry_count blocks old
  pub many : 2 ^ 16 ≤ n

-- the fault is the one that holds, or memory ran out
abbrev pub IsLayoutFault : List Block → MethodCode → LayoutFault → Type 0
IsLayoutFault blocks old (faults.TooLong n) = PassesLength blocks n
IsLayoutFault blocks old (faults.TooManyEntries n) = PassesEntries blocks old n
IsLayoutFault blocks old faults.Memory = Unit {0}
