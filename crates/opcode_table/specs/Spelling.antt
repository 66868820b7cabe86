-- The bytes of an instruction, and which instructions stand in some code (the Java Virtual Machine Specification, second edition, 6.4).
use Rattle.std.specs.Prelude.{◌≡◌, ℕ, ◌+◌, ◌%◌, ◌^◌, ◌<◌, ◌≤◌, Bool, true, false, List, [], ◌∷◌, ◌++◌, length, Option, Some, ℤ, pos, ◌≤ℤ◌, FitsSigned, take, drop}
use Rattle.std.specs.Int.{w8, w16, w32, to_be_bytes, cast_unsigned}
use Rattle.opcode_table.specs.declared.insn.Insn.{Insn}
use Rattle.opcode_table.specs.declared.form.Form.{Form}
use Rattle.opcode_table.specs.Table.{form_of}
use Rattle.opcode_table.specs.Decoding.{table_low, table_high, table_length, pair_number, lookup_length, keys_ascend}

abbrev pub u2_bytes : ℕ → List ℕ
u2_bytes n = to_be_bytes w16 n

abbrev pub s1_bytes : ℤ → List ℕ
s1_bytes n = cast_unsigned w8 n ∷ []

abbrev pub s2_bytes : ℤ → List ℕ
s2_bytes n = to_be_bytes w16 (cast_unsigned w16 n)

abbrev pub s4_bytes : ℤ → List ℕ
s4_bytes n = to_be_bytes w32 (cast_unsigned w32 n)

-- ---- spelling

abbrev pub local_bytes : ℕ → ℕ → Bool → List ℕ
local_bytes op index false = op ∷ index ∷ []
local_bytes op index true = 196 ∷ op ∷ u2_bytes index

abbrev pub increment_bytes : ℕ → ℤ → Bool → List ℕ
increment_bytes index by false = 132 ∷ index ∷ s1_bytes by
increment_bytes index by true = 196 ∷ 132 ∷ u2_bytes index ++ s2_bytes by

abbrev pub pool_bytes : Option Form → ℕ → List ℕ
pool_bytes (Some Form.NarrowPool) index = index ∷ []
pool_bytes _ index = u2_bytes index

abbrev pub branch_bytes : Option Form → ℤ → List ℕ
branch_bytes (Some Form.WideBranch) offset = s4_bytes offset
branch_bytes _ offset = s2_bytes offset

-- The bytes of an instruction that is no switch.
unfoldable pub spelling : Insn → List ℕ
spelling (Insn.Plain op) = op ∷ []
spelling (Insn.Bipush value) = 16 ∷ s1_bytes value
spelling (Insn.Sipush value) = 17 ∷ s2_bytes value
spelling (Insn.Local op index wide) = local_bytes op index wide
spelling (Insn.Iinc index by wide) = increment_bytes index by wide
spelling (Insn.Pool op index) = op ∷ pool_bytes (form_of op) index
spelling (Insn.Interface index count last) = 185 ∷ u2_bytes index ++ count ∷ last ∷ []
spelling (Insn.NewArray code) = 188 ∷ code ∷ []
spelling (Insn.Multi index dims) = 197 ∷ u2_bytes index ++ dims ∷ []
spelling (Insn.Branch op offset) = op ∷ branch_bytes (form_of op) offset
spelling (Insn.TableSwitch table) = []
spelling (Insn.LookupSwitch table) = []

-- the bytes over the front of others
abbrev pub over : List ℕ → List ℕ → List ℕ
over bytes out = bytes ++ drop (length bytes) out

-- ---- which instructions stand in some code

abbrev pub IsForm : Form → Option Form → Type 0
IsForm form found = found ≡ Some form

abbrev pub FitsLocal : Option Form → ℕ → Bool → Type 0
FitsLocal (Some Form.Local) index false = index < 2 ^ 8
FitsLocal (Some Form.Local) index true = index < 2 ^ 16
FitsLocal _ index wide = ⊥

abbrev pub FitsIncrement : ℕ → ℤ → Bool → Type 0
FitsIncrement index by false = (index < 2 ^ 8) × FitsSigned w8 by
FitsIncrement index by true = (index < 2 ^ 16) × FitsSigned w16 by

abbrev pub FitsPool : Option Form → ℕ → Type 0
FitsPool (Some Form.NarrowPool) index = index < 2 ^ 8
FitsPool (Some Form.Pool) index = index < 2 ^ 16
FitsPool _ index = ⊥

abbrev pub FitsBranch : Option Form → ℤ → Type 0
FitsBranch (Some Form.Branch) offset = FitsSigned w16 offset
FitsBranch (Some Form.WideBranch) offset = FitsSigned w32 offset
FitsBranch _ offset = ⊥

-- a multiple of four past the switch's opcode
abbrev pub IsTablePlace : ℕ → Type 0
IsTablePlace table = (table % 4 ≡ 0) × (4 ≤ table)

-- the instruction stands in some code
abbrev pub IsInsn : Insn → Type 0
IsInsn (Insn.Plain op) = IsForm Form.Plain (form_of op)
IsInsn (Insn.Bipush value) = FitsSigned w8 value
IsInsn (Insn.Sipush value) = FitsSigned w16 value
IsInsn (Insn.Local op index wide) = FitsLocal (form_of op) index wide
IsInsn (Insn.Iinc index by wide) = FitsIncrement index by wide
IsInsn (Insn.Pool op index) = FitsPool (form_of op) index
IsInsn (Insn.Interface index count last) = (index < 2 ^ 16) × (count < 2 ^ 8) × (last < 2 ^ 8)
IsInsn (Insn.NewArray code) = code < 2 ^ 8
IsInsn (Insn.Multi index dims) = (index < 2 ^ 16) × (dims < 2 ^ 8)
IsInsn (Insn.Branch op offset) = FitsBranch (form_of op) offset
IsInsn (Insn.TableSwitch table) = IsTablePlace table
IsInsn (Insn.LookupSwitch table) = IsTablePlace table

abbrev pub IsBranchForm : Option Form → Type 0
IsBranchForm (Some Form.Branch) = Unit {0}
IsBranchForm (Some Form.WideBranch) = Unit {0}
IsBranchForm _ = ⊥

-- it stands in some code with another offset or place of its table, if not with its own
abbrev pub IsShaped : Insn → Type 0
IsShaped (Insn.Branch op offset) = IsBranchForm (form_of op)
IsShaped (Insn.TableSwitch table) = Unit {0}
IsShaped (Insn.LookupSwitch table) = Unit {0}
IsShaped insn = IsInsn insn

-- it is no switch
abbrev pub IsSingle : Insn → Type 0
IsSingle (Insn.TableSwitch table) = ⊥
IsSingle (Insn.LookupSwitch table) = ⊥
IsSingle _ = Unit {0}

-- ---- what stands behind a switch

pub record HasTable (code : List ℕ) (table : ℕ) : Type 0 where
  pub header : table + 12 ≤ length code
  pub order : table_low code table ≤ℤ table_high code table
  pub room : table + table_length code table ≤ length code

pub record HasPairs (code : List ℕ) (table : ℕ) : Type 0 where
  pub header : table + 8 ≤ length code
  pub count : pos 0 ≤ℤ pair_number code table
  pub room : table + lookup_length code table ≤ length code
  pub order : keys_ascend code table ≡ true

-- the table of the switch, if it is one, stands in the code
abbrev pub HasSwitch : List ℕ → Insn → Type 0
HasSwitch code (Insn.TableSwitch table) = HasTable code table
HasSwitch code (Insn.LookupSwitch table) = HasPairs code table
HasSwitch code _ = Unit {0}

-- what is known of an instruction of n bytes that stands at pc
pub record Stands (code : List ℕ) (pc : ℕ) (insn : Insn) (n : ℕ) : Type 0 where
  pub some : 0 < n
  pub within : pc + n ≤ length code
  pub valid : IsInsn insn
  pub spelled : IsSingle insn → take n (drop pc code) ≡ spelling insn
  pub size : IsSingle insn → n ≡ length (spelling insn)
  pub switch : HasSwitch code insn
