-- Opcodes of branches.
use Rattle.std.proofs.Common.{◌≡◌, ℕ, zero, suc, ◌<◌, ◌≤◌, Bool, true, false, Option, Some, None, arith, refl, sym, subst, ◌∙◌}
use Rattle.std.specs.Prelude.{◌&&◌, ◌||◌, not, ℤ, pos, FitsSigned}
use Rattle.std.specs.Int.{w16, w32}
use Rattle.std.proofs.lemmas.Bool.{agree_below, agree_below_at}
use Rattle.opcode_table.specs.declared.form.Form.{Form}
use Rattle.opcode_table.specs.Table.{opcode, form_of}
use Rattle.opcode_table.specs.Spelling.{FitsBranch}
use Rattle.code_layout.specs.Places.{is_short, is_short_form, is_test, opposite, passes}

pub short_some : (op : ℕ) → is_short op ≡ true → 0 < op
unfolding opcode
short_some zero is = absurd cc
short_some (suc op) is = omega arith

short_form : (found : Option Form) → is_short_form found ≡ true → found ≡ Some Form.Branch
short_form (Some Form.Branch) is = refl
short_form _ is = absurd cc

-- an offset of two bytes fits a branch that has one
pub short_fits : (op : ℕ) (offset : ℤ) → is_short op ≡ true → FitsSigned w16 offset → FitsBranch (form_of op) offset
short_fits op offset is fits = subst (λ (found : Option Form). FitsBranch found offset) (sym (short_form (form_of op) is)) fits

-- ---- opposites

abbrev holds : ℕ → Bool
holds op = not (is_short op && is_test op) || is_short (opposite op)

follows_from : (a b c : Bool) → (not (a && b) || c) ≡ true → a ≡ true → b ≡ true → c ≡ true
follows_from true true c is a b = is
follows_from true false c is a b = absurd cc
follows_from false b c is a' b' = absurd cc

each_opposite : agree_below holds (λ op. true) 256 ≡ true
unfolding opcode
each_opposite = refl

-- the opposite of a test has an offset of two bytes too
pub opposite_short : (op : ℕ) → op < 256 → is_short op ≡ true → is_test op ≡ true → is_short (opposite op) ≡ true
opposite_short op byte short test = follows_from (is_short op) (is_test op) (is_short (opposite op)) (agree_below_at holds (λ op. true) 256 op each_opposite byte) short test

pub opposite_fits : (op op' : ℕ) → op < 256 → is_short op ≡ true → is_test op ≡ true → op' ≡ opposite op → FitsBranch (form_of op') (pos 8)
opposite_fits op op' byte short test is = subst (λ (o : ℕ). FitsBranch (form_of o) (pos 8)) (sym is) (short_fits (opposite op) (pos 8) (opposite_short op byte short test) (omega arith))

-- ---- branches with an offset of four bytes

pub goto_w_fits : (offset : ℤ) → FitsSigned w32 offset → FitsBranch (form_of 200) offset
unfolding opcode
goto_w_fits offset fits = fits

pub jsr_w_fits : (offset : ℤ) → FitsSigned w32 offset → FitsBranch (form_of 201) offset
unfolding opcode
jsr_w_fits offset fits = fits
