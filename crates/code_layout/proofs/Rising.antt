-- Places rise with rows, and the bytes of each row reach up to the next row's place.
use Rattle.std.proofs.Common.{◌≡◌, ℕ, zero, suc, ◌+◌, ◌-◌, ◌<◌, ◌≤◌, Bool, true, false, cond, ◌&&◌, ◌||◌, List, [], ◌∷◌, ◌++◌, length, get_or, drop, take, map, replicate, refl, sym, ap, ◌∙◌, arith, subst, append_assoc, add-one, length-append, ℤ, pos, inl, inr}
use Rattle.std.proofs.lemmas.Bool.{cases_eq}
use Rattle.std.specs.Prelude.{Option, Some, None, ◌-ℤ◌}
use Rattle.std.specs.List.{AllByRecursion}
use Rattle.opcode_table.specs.declared.insn.Insn.{Insn}
use Rattle.opcode_table.specs.declared.form.Form.{Form}
use Rattle.opcode_table.specs.Table.{form_of}
use Rattle.opcode_table.specs.Decoding.{table_place}
use Rattle.opcode_table.specs.Spelling.{spelling, local_bytes, increment_bytes, pool_bytes, branch_bytes}
use Rattle.code_layout.specs.declared.method_code.Jump.{Jump}
use Rattle.code_layout.specs.declared.row.Row.{Row}
use Rattle.code_layout.specs.Places.{is_test, is_short, narrow_size, widened_size, branch_size, behind_insn, behind, first_wide, other_wide, place_from, place_of, end_of}

-- ---- each instruction has a byte at least

some_local : (op index : ℕ) (wide : Bool) → 0 < length (local_bytes op index wide)
some_local op index true = omega arith
some_local op index false = omega arith

some_increment : (index : ℕ) (by : ℤ) (wide : Bool) → 0 < length (increment_bytes index by wide)
some_increment index by true = omega arith
some_increment index by false = omega arith

some_narrow : (b : Bool) → 0 < cond b 3 5
some_narrow true = omega arith
some_narrow false = omega arith

some_widened : (b : Bool) → 0 < cond b 8 5
some_widened true = omega arith
some_widened false = omega arith

some_branch : (wide : Bool) (op : ℕ) → 0 < branch_size wide op
some_branch true op = some_widened (is_test op)
some_branch false op = some_narrow (is_short op)

past_table : (pc : ℕ) → pc < table_place pc
past_table pc = omega arith

pub behind_rises : (wide : Bool) (pc : ℕ) (i : Insn) (keys : ℕ) → pc < behind_insn wide pc i keys
unfolding spelling
behind_rises wide pc (Insn.Plain op) keys = omega arith
behind_rises wide pc (Insn.Bipush value) keys = omega arith
behind_rises wide pc (Insn.Sipush value) keys = omega arith
behind_rises wide pc (Insn.Local op index far) keys = omega (arith, some_local op index far)
behind_rises wide pc (Insn.Iinc index by far) keys = omega (arith, some_increment index by far)
behind_rises wide pc (Insn.Pool op index) keys = omega arith
behind_rises wide pc (Insn.Interface index count last) keys = omega arith
behind_rises wide pc (Insn.NewArray code) keys = omega arith
behind_rises wide pc (Insn.Multi index dims) keys = omega arith
behind_rises wide pc (Insn.Branch op offset) keys = omega (arith, some_branch wide op)
behind_rises wide pc (Insn.TableSwitch table) keys = omega (arith, past_table pc)
behind_rises wide pc (Insn.LookupSwitch table) keys = omega (arith, past_table pc)

-- ---- places rise

pub place_above : (pc : ℕ) (rows : List Row) (wide : List Bool) (i : ℕ) → pc + i ≤ place_from pc rows wide i
place_above pc [] wide i = omega arith
place_above pc (row ∷ rows) wide zero = omega arith
place_above pc (row ∷ rows) wide (suc i) =
    omega (arith, behind_rises (first_wide wide) pc row.insn (length row.jump.keys), place_above (behind (first_wide wide) pc row) rows (other_wide wide) i)

pub place_rises : (pc : ℕ) (rows : List Row) (wide : List Bool) (i j : ℕ) → i < j → place_from pc rows wide i < place_from pc rows wide j
place_rises pc [] wide i j lt = omega arith
place_rises pc (row ∷ rows) wide i zero lt = absurd (omega arith)
place_rises pc (row ∷ rows) wide zero (suc j) lt =
    omega (arith, behind_rises (first_wide wide) pc row.insn (length row.jump.keys), place_above (behind (first_wide wide) pc row) rows (other_wide wide) j)
place_rises pc (row ∷ rows) wide (suc i) (suc j) lt = place_rises (behind (first_wide wide) pc row) rows (other_wide wide) i j (omega arith)

pub place_at_most : (pc : ℕ) (rows : List Row) (wide : List Bool) (i j : ℕ) → i ≤ j → place_from pc rows wide i ≤ place_from pc rows wide j
place_at_most pc rows wide i j le =
    elim (cases_eq i j) [
      | inl e ↦ (let same = ap (place_from pc rows wide) e in omega arith)
      | inr ne ↦ (let lt = place_rises pc rows wide i j (omega arith) in omega arith)
    ]

pub place_first : (pc : ℕ) (rows : List Row) (wide : List Bool) → place_from pc rows wide 0 ≡ pc
place_first pc [] wide = omega arith
place_first pc (row ∷ rows) wide = refl

-- a row, and whether it is wide, are behind the place of the one before
pub place_next : (pc : ℕ) (rows : List Row) (wide : List Bool) (i : ℕ) (row : Row) → i < length rows → row ≡ get_or rows i row
    → place_from pc rows wide (suc i) ≡ behind (get_or wide i false) (place_from pc rows wide i) row
place_next pc [] wide i row lt is = absurd (omega arith)
place_next pc (r ∷ rows) [] zero row lt is = place_first (behind false pc r) rows [] ∙ ap (behind false pc) (sym is)
place_next pc (r ∷ rows) (w ∷ wide) zero row lt is = place_first (behind w pc r) rows wide ∙ ap (behind w pc) (sym is)
place_next pc (r ∷ rows) [] (suc i) row lt is = place_next (behind false pc r) rows [] i row (omega arith) is
place_next pc (r ∷ rows) (w ∷ wide) (suc i) row lt is = place_next (behind w pc r) rows wide i row (omega arith) is
