-- The bytes of rows that are laid out (JVMS 6.4), and what the steps of laying out give each other.
use Rattle.std.specs.Prelude.{◌≡◌, ℕ, zero, suc, ◌+◌, ◌-◌, ◌^◌, ◌<◌, ◌≤◌, Bool, true, false, List, [], ◌∷◌, ◌++◌, length, map, get_or, replicate, FitsSigned, ℤ, pos, ◌+ℤ◌, ◌-ℤ◌}
use Rattle.std.specs.Int.{w32}
use Rattle.std.specs.List.{AllByRecursion}
use Rattle.opcode_table.specs.declared.insn.Insn.{Insn}
use Rattle.opcode_table.specs.declared.insn.Insn.TheVariants as insn
use Rattle.opcode_table.specs.Decoding.{table_place}
use Rattle.opcode_table.specs.Table.{form_of}
use Rattle.opcode_table.specs.Spelling.{spelling, s4_bytes, FitsBranch}
use Rattle.code_layout.specs.declared.layout_fault.LayoutFault.{LayoutFault}
use Rattle.code_layout.specs.declared.layout_fault.LayoutFault.TheVariants as faults
use Rattle.code_layout.specs.declared.block.Block.{Block}
use Rattle.code_layout.specs.declared.row.Row.{Row}
use Rattle.code_layout.specs.declared.method_code.MethodCode.{MethodCode}
use Rattle.code_layout.specs.declared.method_code.LineTable.{LineTable}
use Rattle.code_layout.specs.declared.method_code.VariableTable.{VariableTable}
use Rattle.code_layout.specs.Blocks.{Leads, start_of, row_count, IsOldEntry, IsLine, IsVariable}
use Rattle.code_layout.specs.Places.{goto_w, wide_jump, is_short, is_test, opposite, first_wide, other_wide, place_of, end_of, AreWidened}

-- ---- bytes

-- zeros up to the next multiple of four behind the opcode
abbrev pub padding : ℕ → List ℕ
padding pc = replicate (table_place pc - (pc + 1)) 0

abbrev pub words : List ℤ → List ℕ
words [] = []
words (n ∷ numbers) = s4_bytes n ++ words numbers

-- the default's offset, the lowest and the highest key, and an offset for each key
abbrev pub table_bytes : List ℤ → List ℤ → List ℕ
table_bytes (low ∷ keys) (default ∷ offsets) = s4_bytes default ++ (s4_bytes low ++ (s4_bytes (low +ℤ pos (length keys)) ++ words offsets))
table_bytes _ _ = []

-- each key and its offset
abbrev pub pairs_bytes : List ℤ → List ℤ → List ℕ
pairs_bytes (key ∷ keys) (offset ∷ offsets) = s4_bytes key ++ (s4_bytes offset ++ pairs_bytes keys offsets)
pairs_bytes _ _ = []

-- the default's offset, the number of keys, and the pairs
abbrev pub lookup_bytes : List ℤ → List ℤ → List ℕ
lookup_bytes keys [] = []
lookup_bytes keys (default ∷ offsets) = s4_bytes default ++ (s4_bytes (pos (length keys)) ++ pairs_bytes keys offsets)

-- an instruction at pc that is no widened branch, with these keys and offsets
abbrev pub narrow_bytes : ℕ → Insn → List ℤ → List ℤ → List ℕ
narrow_bytes pc (insn.Branch op offset) keys offsets = spelling (insn.Branch op (get_or offsets 0 (pos 0)))
narrow_bytes pc (insn.TableSwitch table) keys offsets = 170 ∷ padding pc ++ table_bytes keys offsets
narrow_bytes pc (insn.LookupSwitch table) keys offsets = 171 ∷ padding pc ++ lookup_bytes keys offsets
narrow_bytes pc insn keys offsets = spelling insn

abbrev pub widened_bytes_by : Bool → ℕ → ℤ → List ℕ
widened_bytes_by true op offset = spelling (insn.Branch (opposite op) (pos 8)) ++ spelling (insn.Branch goto_w (offset -ℤ pos 3))
widened_bytes_by false op offset = spelling (insn.Branch (wide_jump op) offset)

-- a widened branch
abbrev pub widened_bytes : Insn → ℤ → List ℕ
widened_bytes (insn.Branch op offset) distance = widened_bytes_by (is_test op) op distance
widened_bytes insn distance = []

abbrev pub distance : (ℕ → ℕ) → ℕ → ℕ → ℤ
distance place i to = pos (place to) -ℤ pos (place i)

-- row i
abbrev pub row_bytes : (ℕ → ℕ) → ℕ → Bool → Row → List ℕ
row_bytes place i true row = widened_bytes row.insn (distance place i (get_or row.jump.to 0 0))
row_bytes place i false row = narrow_bytes (place i) row.insn row.jump.keys (map (distance place i) row.jump.to)

abbrev pub bytes_from : (ℕ → ℕ) → ℕ → List Row → List Bool → List ℕ
bytes_from place i [] wide = []
bytes_from place i (row ∷ rows) wide = row_bytes place i (first_wide wide) row ++ bytes_from place (i + 1) rows (other_wide wide)

abbrev pub bytes_of : List Row → List Bool → List ℕ
bytes_of rows wide = bytes_from (place_of rows wide) 0 rows wide

-- the way from a place to a row
abbrev pub way : List ℕ → ℕ → ℕ → ℤ
way places pc to = pos (get_or places to 0) -ℤ pos pc

-- a branch with an offset of two bytes
abbrev pub IsShortInsn : Insn → Type 0
IsShortInsn (insn.Branch op offset) = is_short op ≡ true
IsShortInsn _ = ⊥

-- If the instruction is widened, it is a branch with an offset of two bytes. If it isn't, but is a branch, the distance fits it.
abbrev pub IsReached : Bool → Insn → ℤ → Type 0
IsReached true insn distance = IsShortInsn insn
IsReached false (insn.Branch op offset) distance = FitsBranch (form_of op) distance
IsReached false insn distance = Unit {0}

-- what the old tables name is there
pub record HasTables (count : ℕ) (old : MethodCode) : Type 0 where
  pub entries : AllByRecursion (IsOldEntry count) old.entries
  pub lines : AllByRecursion (λ (t : LineTable). AllByRecursion (IsLine count) t.rows) old.lines
  pub variables : AllByRecursion (λ (t : VariableTable). AllByRecursion (IsVariable count) t.rows) old.variables

-- ---- what one step gives the next

pub record IsRow (count : ℕ) (row : Row) : Type 0 where
  pub leads : Leads row.insn row.jump
  pub within : AllByRecursion (λ (to : ℕ). to ≤ count) row.jump.to

abbrev pub AreRows : List Row → Type 0
AreRows rows = AllByRecursion (IsRow (length rows)) rows

-- keys are numbers of 32 bits
abbrev pub HaveKeys : List Row → Type 0
HaveKeys rows = AllByRecursion (λ (row : Row). AllByRecursion (FitsSigned w32) row.jump.keys) rows

-- of each block the number of its first row, and behind them that of all rows
pub record AreStarts (blocks : List Block) (starts : List ℕ) : Type 0 where
  pub count : length starts ≡ length blocks + 1
  pub each : (k : ℕ) → k ≤ length blocks → get_or starts k 0 ≡ start_of blocks k

-- of each row its place, and behind them the code's end
pub record ArePlaces (rows : List Row) (wide : List Bool) (places : List ℕ) : Type 0 where
  pub flags : length wide ≡ length rows
  pub count : length places ≡ length rows + 1
  pub each : (i : ℕ) → i ≤ length rows → get_or places i 0 ≡ place_of rows wide i

-- the place of a row as a list of places has it
abbrev pub place_in : List ℕ → ℕ → ℕ
place_in places i = get_or places i 0

-- the places of so many rows, which fit 16 bits
pub record AreSmall (count : ℕ) (places : List ℕ) : Type 0 where
  pub all : length places ≡ count + 1
  pub each : (i : ℕ) → place_in places i < 2 ^ 16
  pub rise : (i j : ℕ) → i ≤ j → j ≤ count → place_in places i ≤ place_in places j

-- what the bytes of row i ask
pub record CanStand (places : List ℕ) (i : ℕ) (wide : Bool) (row : Row) : Type 0 where
  pub valid : IsRow (length places - 1) row
  pub there : i < length places
  pub small : (k : ℕ) → place_in places k < 2 ^ 16
  pub few : length row.jump.keys < 2 ^ 16
  pub reached : IsReached wide row.insn (distance (place_in places) i (get_or row.jump.to 0 0))
