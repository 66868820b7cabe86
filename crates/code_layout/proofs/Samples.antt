-- Blocks laid out by the definitions alone.
use Rattle.std.proofs.Common.{◌≡◌, ℕ, zero, suc, ◌+◌, Bool, true, false, List, [], ◌∷◌, ◌++◌, refl, replicate}
use Rattle.std.specs.Prelude.{ℤ, pos, negsuc}
use Rattle.opcode_table.specs.declared.insn.Insn.{Insn}
use Rattle.opcode_table.specs.declared.insn.Insn.TheVariants as insn
use Rattle.opcode_table.specs.Table.{opcode}
use Rattle.opcode_table.specs.Spelling.{spelling}
use Rattle.class_file.specs.declared.types.ExceptionEntry.{ExceptionEntry}
use Rattle.code_layout.specs.declared.method_code.Jump.{Jump}
use Rattle.code_layout.specs.declared.method_code.CodeEntry.{CodeEntry}
use Rattle.code_layout.specs.declared.block.Block.{Block}
use Rattle.code_layout.specs.declared.block.BlockEntry.{BlockEntry}
use Rattle.code_layout.specs.declared.block.BlockTarget.{BlockTarget}
use Rattle.code_layout.specs.declared.block.BlockTarget.TheVariants as target
use Rattle.code_layout.specs.declared.row.Row.{Row}
use Rattle.code_layout.specs.Blocks.{rows}
use Rattle.code_layout.specs.Places.{first_wide, place_of, widen, after_rounds}
use Rattle.code_layout.specs.Laid.{entries_of}
use Rattle.code_layout.specs.Spelled.{bytes_of, row_bytes}

abbrev to_none : Jump BlockTarget
to_none = record { keys = []; to = [] }

abbrev plain : ℕ → Block
plain op = record { insns = insn.Plain op ∷ []; targets = to_none ∷ []; labels = []; entries = []; stack = 0; locals = 0 }

-- ---- a far ifeq: its offset is 32772

abbrev ifeq : Block
ifeq = record { insns = insn.Branch 153 (pos 0) ∷ []; targets = record { keys = []; to = target.Old 2 ∷ [] } ∷ []; labels = []; entries = []; stack = 0; locals = 0 }

abbrev up_from : ℕ → ℕ → List ℤ
up_from zero low = []
up_from (suc n) low = pos low ∷ up_from n (low + 1)

-- a switch of so many keys, which all lead to the end: 12 bytes and 4 for each key
abbrev long_switch : ℕ → Block
long_switch n = record { insns = insn.TableSwitch 0 ∷ []; targets = record { keys = up_from n 0; to = replicate (n + 1) (target.Old 2) } ∷ []; labels = []; entries = []; stack = 0; locals = 0 }

abbrev far : List Block
far = ifeq ∷ long_switch 8189 ∷ plain 177 ∷ []

pub far_place : place_of (rows far) (after_rounds (rows far) 0) 2 ≡ 32772
unfolding spelling opcode
far_place = refl

far_wide : after_rounds (rows far) 1 ≡ true ∷ false ∷ false ∷ []
unfolding spelling opcode
far_wide = refl

far_settled : widen (rows far) (after_rounds (rows far) 1) ≡ after_rounds (rows far) 1
unfolding spelling opcode
far_settled = refl

-- ifne 8, goto_w 32777
abbrev first_row : List Row → Row
first_row [] = record { insn = insn.Plain 0; jump = record { keys = []; to = [] } }
first_row (row ∷ rows) = row

far_bytes : row_bytes (place_of (rows far) (after_rounds (rows far) 1)) 0 true (first_row (rows far)) ≡ 154 ∷ 0 ∷ 8 ∷ 200 ∷ 0 ∷ 0 ∷ 128 ∷ 9 ∷ []
unfolding spelling opcode
far_bytes = refl

-- ---- a switch behind a nop that was put in: it is padded from the method's start

abbrev switched : List Block
switched =
    plain 0 ∷
    record {
      insns = insn.Plain 0 ∷ insn.TableSwitch 0 ∷ [];
      targets = to_none ∷ record { keys = negsuc 0 ∷ []; to = target.Old 2 ∷ target.Old 0 ∷ [] } ∷ [];
      labels = [];
      entries = [];
      stack = 0;
      locals = 0;
    } ∷
    plain 177 ∷ []

switch_bytes : bytes_of (rows switched) (after_rounds (rows switched) 0)
    ≡ 0 ∷ 0 ∷ 170 ∷ 0 ∷ 0 ∷ 0 ∷ 0 ∷ 18 ∷ 255 ∷ 255 ∷ 255 ∷ 255 ∷ 255 ∷ 255 ∷ 255 ∷ 255 ∷ 255 ∷ 255 ∷ 255 ∷ 254 ∷ 177 ∷ []
unfolding spelling opcode
switch_bytes = refl

-- ---- an entry whose block has code and an entry of its own

abbrev guarded : List Block
guarded =
    record {
      insns = insn.Plain 0 ∷ insn.Plain 0 ∷ insn.Plain 0 ∷ [];
      targets = to_none ∷ to_none ∷ to_none ∷ [];
      labels = 2 ∷ [];
      entries = record { start = 0; end = 1; old_range = false; handler = target.Label 0; catch_type = 7 } ∷ [];
      stack = 0;
      locals = 0;
    } ∷
    plain 177 ∷ []

guarded_entries : entries_of (place_of (rows guarded) (after_rounds (rows guarded) 0)) guarded (record { start = 0; end = 1; handler = 1; catch_type = 0 } ∷ [])
    ≡ record { start = 0; end = 1; handler = 2; catch_type = 7 } ∷ record { start = 0; end = 3; handler = 3; catch_type = 0 } ∷ []
unfolding spelling opcode
guarded_entries = refl
