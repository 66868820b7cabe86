-- Blocks that may be laid out, and their instructions in one list.
use Rattle.std.specs.Prelude.{◌≡◌, ℕ, zero, suc, ◌+◌, ◌<◌, ◌≤◌, Bool, true, false, if◌then◌else◌, List, [], ◌∷◌, ◌++◌, length, map, get_or, Option, Some, ℤ, pos, ◌+ℤ◌, ◌<ℤ◌}
use Rattle.std.specs.List.{AllZip, AllByRecursion}
use Rattle.opcode_table.specs.declared.insn.Insn.{Insn}
use Rattle.opcode_table.specs.declared.insn.Insn.TheVariants as insn
use Rattle.opcode_table.specs.Spelling.{IsShaped}
use Rattle.class_file.specs.Code.{numbered}
use Rattle.code_layout.specs.declared.method_code.Jump.{Jump}
use Rattle.code_layout.specs.declared.method_code.CodeEntry.{CodeEntry}
use Rattle.code_layout.specs.declared.method_code.Line.{Line}
use Rattle.code_layout.specs.declared.method_code.LineTable.{LineTable}
use Rattle.code_layout.specs.declared.method_code.Variable.{Variable}
use Rattle.code_layout.specs.declared.method_code.VariableTable.{VariableTable}
use Rattle.code_layout.specs.declared.method_code.MethodCode.{MethodCode}
use Rattle.code_layout.specs.declared.block.Block.{Block}
use Rattle.code_layout.specs.declared.block.BlockEntry.{BlockEntry}
use Rattle.code_layout.specs.declared.block.BlockTarget.{BlockTarget}
use Rattle.code_layout.specs.declared.block.BlockTarget.TheVariants as target
use Rattle.code_layout.specs.declared.row.Row.{Row}

-- ---- jumps that fit their instructions

-- each key is below the next
abbrev pub Ascend : List ℤ → Type 0
Ascend [] = Unit {0}
Ascend (a ∷ []) = Unit {0}
Ascend (a ∷ b ∷ keys) = (a <ℤ b) × Ascend (b ∷ keys)

-- each number from the first to the last
abbrev pub Count : List ℤ → Type 0
Count [] = ⊥
Count (low ∷ keys) = low ∷ keys ≡ numbered (length (low ∷ keys)) (λ i. low +ℤ pos i)

-- A branch has one target. A switch has keys of its kind, a target for each, and one before them: the default's (JVMS 6.4).
abbrev pub HasJump : {T : Type 0} → Insn → Jump T → Type 0
HasJump (insn.Branch op offset) jump = (jump.keys ≡ []) × (length jump.to ≡ 1)
HasJump (insn.TableSwitch table) jump = Count jump.keys × (length jump.to ≡ length jump.keys + 1)
HasJump (insn.LookupSwitch table) jump = Ascend jump.keys × (length jump.to ≡ length jump.keys + 1)
HasJump _ jump = (jump.keys ≡ []) × (jump.to ≡ [])

-- but for its offset or table it stands in some code, and its jump fits it
abbrev pub Leads : {T : Type 0} → Insn → Jump T → Type 0
Leads insn jump = IsShaped insn × HasJump insn jump

-- ---- numbers in range

module _ (count : ℕ) where
  -- a label of the block, or the number of an old instruction
  abbrev pub IsTargetOf : Block → BlockTarget → Type 0
  IsTargetOf b (target.Label l) = l < length b.labels
  IsTargetOf b (target.Old n) = n < count
  IsTargetOf b target.Miss = ⊥

  abbrev pub range_limit : Block → Bool → ℕ
  range_limit b true = count
  range_limit b false = length b.insns

  pub record IsEntryOf (b : Block) (e : BlockEntry) : Type 0 where
    pub start : e.start ≤ range_limit b e.old_range
    pub end : e.end ≤ range_limit b e.old_range
    pub handler : IsTargetOf b e.handler

  -- Its instructions have jumps that fit them, and all that is named is there. A label and the end of a range may be that of the block.
  pub record IsBlock (b : Block) : Type 0 where
    pub insns : AllZip Leads b.insns b.targets
    pub targets : AllByRecursion (λ (j : Jump BlockTarget). AllByRecursion (IsTargetOf b) j.to) b.targets
    pub labels : AllByRecursion (λ (position : ℕ). position ≤ length b.insns) b.labels
    pub entries : AllByRecursion (IsEntryOf b) b.entries

  pub record IsOldEntry (e : CodeEntry) : Type 0 where
    pub start : e.start ≤ count
    pub end : e.end ≤ count
    pub handler : e.handler < count

  abbrev pub IsLine : Line → Type 0
  IsLine row = row.start ≤ count

  pub record IsVariable (row : Variable) : Type 0 where
    pub order : row.start ≤ row.end
    pub end : row.end ≤ count

-- One block for each old instruction, and the numbers in the blocks and in the old tables are in range. The end of a range may be the number of all.
pub record AreLayable (blocks : List Block) (old : MethodCode) : Type 0 where
  pub count : length blocks ≡ length old.insns
  pub each : AllByRecursion (IsBlock (length blocks)) blocks
  pub entries : AllByRecursion (IsOldEntry (length blocks)) old.entries
  pub lines : AllByRecursion (λ (t : LineTable). AllByRecursion (IsLine (length blocks)) t.rows) old.lines
  pub variables : AllByRecursion (λ (t : VariableTable). AllByRecursion (IsVariable (length blocks)) t.rows) old.variables

-- ---- one list of rows

-- The number of the row at which a block begins: how many instructions the blocks before it have. Behind the last block it is the number of all rows.
abbrev pub start_of : List Block → ℕ → ℕ
start_of [] k = 0
start_of (b ∷ blocks) zero = 0
start_of (b ∷ blocks) (suc k) = length b.insns + start_of blocks k

-- the row where a target of a block leads, whose own first row is `start`
abbrev pub target_row : List Block → ℕ → List ℕ → BlockTarget → ℕ
target_row blocks start labels (target.Label l) = start + get_or labels l 0
target_row blocks start labels (target.Old n) = start_of blocks n
target_row blocks start labels target.Miss = start

-- an instruction of a block, whose own first row is `start`, as a row
abbrev pub row_in : List Block → ℕ → List ℕ → Insn → Jump BlockTarget → Row
row_in blocks start labels i j = record { insn = i; jump = record { keys = j.keys; to = map (target_row blocks start labels) j.to } }

abbrev pub rows_of : (BlockTarget → ℕ) → List Insn → List (Jump BlockTarget) → List Row
rows_of row_of [] jumps = []
rows_of row_of (i ∷ insns) [] = []
rows_of row_of (i ∷ insns) (j ∷ jumps) = record { insn = i; jump = record { keys = j.keys; to = map row_of j.to } } ∷ rows_of row_of insns jumps

abbrev pub rows_from : List Block → ℕ → List Block → List Row
rows_from all start [] = []
rows_from all start (b ∷ blocks) = rows_of (target_row all start b.labels) b.insns b.targets ++ rows_from all (start + length b.insns) blocks

-- the instructions of the blocks in order, with targets by the numbers of rows
abbrev pub rows : List Block → List Row
rows blocks = rows_from blocks 0 blocks

-- how many instructions the blocks have
abbrev pub row_count : List Block → ℕ
row_count [] = 0
row_count (b ∷ blocks) = length b.insns + row_count blocks
