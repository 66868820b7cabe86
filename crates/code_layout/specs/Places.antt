-- Where instructions stand that are laid out one behind the other, and which branches are wide (JVMS 4.8.1, 6.4).
use Rattle.std.specs.Prelude.{◌≡◌, ℕ, zero, suc, pred, ◌+◌, ◌*◌, ◌%◌, ◌==◌, Bool, true, false, not, ◌&&◌, ◌||◌, if◌then◌else◌, nat_le, List, [], ◌∷◌, ◌++◌, length, map, get_or, Option, Some, ℤ, pos, negsuc, ◌+ℤ◌, ◌-ℤ◌, int_le, int_lt}
use Rattle.opcode_table.specs.declared.insn.Insn.{Insn}
use Rattle.opcode_table.specs.declared.insn.Insn.TheVariants as insn
use Rattle.opcode_table.specs.declared.form.Form.{Form}
use Rattle.opcode_table.specs.Table.{form_of}
use Rattle.opcode_table.specs.Decoding.{table_place}
use Rattle.opcode_table.specs.Spelling.{spelling}
use Rattle.code_layout.specs.declared.method_code.Jump.{Jump}
use Rattle.code_layout.specs.declared.row.Row.{Row}

-- ---- branches

abbrev pub goto : ℕ
goto = 167

abbrev pub jsr : ℕ
jsr = 168

abbrev pub goto_w : ℕ
goto_w = 200

abbrev pub jsr_w : ℕ
jsr_w = 201

-- the wide form of goto or jsr
abbrev pub wide_jump : ℕ → ℕ
wide_jump op = if op == goto then goto_w else jsr_w

-- the branch is a test: it is neither goto nor jsr
abbrev pub is_test : ℕ → Bool
is_test op = not (op == goto || op == jsr)

-- The test that holds where this one does not. The tests stand in pairs of opposites: 153 and 154 and so on up to 165 and 166, and ifnull and ifnonnull, 198 and 199.
abbrev pub opposite : ℕ → ℕ
opposite op = if (op % 2 == 1 && nat_le op 166) || op == 198 then op + 1 else pred op

abbrev pub is_short_form : Option Form → Bool
is_short_form (Some Form.Branch) = true
is_short_form _ = false

-- its offset has two bytes
abbrev pub is_short : ℕ → Bool
is_short op = is_short_form (form_of op)

-- how many bytes a branch has that is as it is
abbrev pub narrow_size : ℕ → ℕ
narrow_size op = if is_short op then 3 else 5

-- how many bytes a widened branch has: a test is the opposite test over a goto_w
abbrev pub widened_size : ℕ → ℕ
widened_size op = if is_test op then 8 else 5

abbrev pub branch_size : Bool → ℕ → ℕ
branch_size true op = widened_size op
branch_size false op = narrow_size op

-- ---- places

-- The place behind an instruction at pc, with so many keys. A switch is padded to a multiple of four from the method's start.
abbrev pub behind_insn : Bool → ℕ → Insn → ℕ → ℕ
behind_insn wide pc (insn.Branch op offset) keys = pc + branch_size wide op
behind_insn wide pc (insn.TableSwitch table) keys = table_place pc + (12 + 4 * keys)
behind_insn wide pc (insn.LookupSwitch table) keys = table_place pc + (8 + 8 * keys)
behind_insn wide pc insn keys = pc + length (spelling insn)

abbrev pub behind : Bool → ℕ → Row → ℕ
behind wide pc row = behind_insn wide pc row.insn (length row.jump.keys)

abbrev pub first_wide : List Bool → Bool
first_wide [] = false
first_wide (w ∷ wide) = w

abbrev pub other_wide : List Bool → List Bool
other_wide [] = []
other_wide (w ∷ wide) = wide

-- The place of row i, where the first row stands at pc. Past the last row it goes on rising.
abbrev pub place_from : ℕ → List Row → List Bool → ℕ → ℕ
place_from pc [] wide i = pc + i
place_from pc (row ∷ rows) wide zero = pc
place_from pc (row ∷ rows) wide (suc i) = place_from (behind (first_wide wide) pc row) rows (other_wide wide) i

-- the place of row i; that of the number of all rows is where the code ends
abbrev pub place_of : List Row → List Bool → ℕ → ℕ
place_of rows wide i = place_from 0 rows wide i

abbrev pub end_of : List Row → List Bool → ℕ
end_of rows wide = place_of rows wide (length rows)

-- ---- which branches are wide

-- the offset does not fit 16 bits
abbrev pub passes : ℤ → Bool
passes offset = int_lt offset (negsuc 32767) || int_lt (pos 32767) offset

-- row i is a branch with an offset of two bytes, and it passes them
abbrev pub is_far_insn : (ℕ → ℕ) → ℕ → Insn → List ℕ → Bool
is_far_insn place i (insn.Branch op offset) to = is_short op && passes (pos (place (get_or to 0 0)) -ℤ pos (place i))
is_far_insn place i insn to = false

abbrev pub is_far : (ℕ → ℕ) → ℕ → Row → Bool
is_far place i row = is_far_insn place i row.insn row.jump.to

abbrev pub widen_from : (ℕ → ℕ) → ℕ → List Row → List Bool → List Bool
widen_from place i [] wide = []
widen_from place i (row ∷ rows) wide = (first_wide wide || is_far place i row) ∷ widen_from place (i + 1) rows (other_wide wide)

-- Each branch is wide that was, or whose offset passes 16 bits in this layout.
abbrev pub widen : List Row → List Bool → List Bool
widen rows wide = widen_from (place_of rows wide) 0 rows wide

-- none is wide at first, and then in each round some more
abbrev pub after_rounds : List Row → ℕ → List Bool
after_rounds rows zero = map (λ row. false) rows
after_rounds rows (suc n) = widen rows (after_rounds rows n)

-- Widening begins with none and ends where no further branch is to be widened.
pub record AreWidened (rows : List Row) (wide : List Bool) : Type 0 where
  pub rounds : ℕ
  pub reached : wide ≡ after_rounds rows rounds
  pub settled : widen rows wide ≡ wide

-- ---- bounds

-- how many bytes an instruction has at most but for padding: a branch as it is widened
abbrev pub most_bytes_insn : Insn → ℕ → ℕ
most_bytes_insn (insn.Branch op offset) keys = if is_short op then widened_size op else 5
most_bytes_insn (insn.TableSwitch table) keys = 13 + 4 * keys
most_bytes_insn (insn.LookupSwitch table) keys = 9 + 8 * keys
most_bytes_insn insn keys = length (spelling insn)

abbrev pub is_switch : Insn → Bool
is_switch (insn.TableSwitch table) = true
is_switch (insn.LookupSwitch table) = true
is_switch _ = false
