-- What is spelled is decoded again.
use Rattle.std.proofs.Common.{◌≡◌, ℕ, ◌^◌, ◌<◌, Bool, true, false, List, ◌∷◌, ◌++◌, length, drop, Option, Some, Ok, refl, ap, subst, ◌∙◌, append_assoc}
use Rattle.std.specs.Prelude.{ℤ, FitsSigned}
use Rattle.std.specs.Int.{w8, w16, cast_signed, from_be_bytes}
use Rattle.std.proofs.lemmas.List.{drop_at}
use Rattle.opcode_table.specs.declared.insn.Insn.{Insn}
use Rattle.opcode_table.specs.declared.form.Form.{Form}
use Rattle.opcode_table.specs.Table.{opcode, form_of}
use Rattle.opcode_table.specs.Decoding.{Decoded, widened, by_form, instruction, decoded}
use Rattle.opcode_table.specs.Spelling.{spelling, s2_bytes, local_bytes, increment_bytes, pool_bytes, branch_bytes, FitsLocal, FitsIncrement, FitsPool, FitsBranch, IsInsn, IsSingle}
use Rattle.opcode_table.specs.Bytes.{u2_again, s1_again, s2_again, s4_again}
use Rattle.opcode_table.specs.Forms.{wide_is}

bipush_again : (code : List ℕ) (pc : ℕ) (value : ℤ) (rest : List ℕ) → FitsSigned w8 value → instruction code pc (spelling (Insn.Bipush value) ++ rest) ≡ Ok (Insn.Bipush value, 2)
unfolding spelling opcode
bipush_again code pc value rest fits = ap (λ (n : ℤ). let d : Decoded = Ok (Insn.Bipush n, 2) in d) (s1_again value fits)

sipush_again : (code : List ℕ) (pc : ℕ) (value : ℤ) (rest : List ℕ) → FitsSigned w16 value → instruction code pc (spelling (Insn.Sipush value) ++ rest) ≡ Ok (Insn.Sipush value, 3)
unfolding spelling opcode
sipush_again code pc value rest fits = ap (λ (n : ℤ). let d : Decoded = Ok (Insn.Sipush n, 3) in d) (s2_again value fits)

pub local_form : (found : Option Form) (index : ℕ) (wide : Bool) → FitsLocal found index wide → found ≡ Some Form.Local
local_form (Some Form.Local) index wide fits = refl
local_form _ index wide fits = absurd fits

local_again : (code : List ℕ) (pc op index : ℕ) (wide : Bool) (rest : List ℕ) → FitsLocal (form_of op) index wide → instruction code pc (local_bytes op index wide ++ rest) ≡ Ok (Insn.Local op index wide, length (local_bytes op index wide))
local_again code pc op index false rest fits = ap (λ (found : Option Form). by_form code pc op found (index ∷ rest)) (local_form (form_of op) index false fits)
local_again code pc op index true rest fits =
    let is = local_form (form_of op) index true fits in
    let small : index < 2 ^ 16 = subst (λ (found : Option Form). FitsLocal found index true) is fits in
    ap (λ (found : Option Form). by_form code pc 196 found (drop 1 (local_bytes op index true ++ rest))) wide_is
    ∙ ap (λ (found : Option Form). widened pc op found (drop 2 (local_bytes op index true ++ rest))) is
    ∙ ap (λ (n : ℕ). let d : Decoded = Ok (Insn.Local op n true, 4) in d) (u2_again index small)

increment_again : (code : List ℕ) (pc index : ℕ) (by : ℤ) (wide : Bool) (rest : List ℕ) → FitsIncrement index by wide → instruction code pc (increment_bytes index by wide ++ rest) ≡ Ok (Insn.Iinc index by wide, length (increment_bytes index by wide))
unfolding opcode
increment_again code pc index by false rest fits = ap (λ (n : ℤ). let d : Decoded = Ok (Insn.Iinc index n false, 3) in d) (s1_again by fits.1)
increment_again code pc index by true rest fits =
    ap (λ (n : ℕ). let d : Decoded = Ok (Insn.Iinc n (cast_signed w16 (from_be_bytes w16 (s2_bytes by))) true, 6) in d) (u2_again index fits.0)
    ∙ ap (λ (n : ℤ). let d : Decoded = Ok (Insn.Iinc index n true, 6) in d) (s2_again by fits.1)

pool_again_in : (code : List ℕ) (pc op index : ℕ) (rest : List ℕ) (found : Option Form) → FitsPool found index → by_form code pc op found (pool_bytes found index ++ rest) ≡ Ok (Insn.Pool op index, length (op ∷ pool_bytes found index))
pool_again_in code pc op index rest (Some Form.NarrowPool) fits = refl
pool_again_in code pc op index rest (Some Form.Pool) fits = ap (λ (n : ℕ). let d : Decoded = Ok (Insn.Pool op n, 3) in d) (u2_again index fits)
pool_again_in code pc op index rest _ fits = absurd fits

pool_again : (code : List ℕ) (pc op index : ℕ) (rest : List ℕ) → FitsPool (form_of op) index → instruction code pc (spelling (Insn.Pool op index) ++ rest) ≡ Ok (Insn.Pool op index, length (spelling (Insn.Pool op index)))
unfolding spelling
pool_again code pc op index rest fits = pool_again_in code pc op index rest (form_of op) fits

branch_again_in : (code : List ℕ) (pc op : ℕ) (offset : ℤ) (rest : List ℕ) (found : Option Form) → FitsBranch found offset → by_form code pc op found (branch_bytes found offset ++ rest) ≡ Ok (Insn.Branch op offset, length (op ∷ branch_bytes found offset))
branch_again_in code pc op offset rest (Some Form.Branch) fits = ap (λ (n : ℤ). let d : Decoded = Ok (Insn.Branch op n, 3) in d) (s2_again offset fits)
branch_again_in code pc op offset rest (Some Form.WideBranch) fits = ap (λ (n : ℤ). let d : Decoded = Ok (Insn.Branch op n, 5) in d) (s4_again offset fits)
branch_again_in code pc op offset rest _ fits = absurd fits

branch_again : (code : List ℕ) (pc op : ℕ) (offset : ℤ) (rest : List ℕ) → FitsBranch (form_of op) offset → instruction code pc (spelling (Insn.Branch op offset) ++ rest) ≡ Ok (Insn.Branch op offset, length (spelling (Insn.Branch op offset)))
unfolding spelling
branch_again code pc op offset rest fits = branch_again_in code pc op offset rest (form_of op) fits

interface_again : (code : List ℕ) (pc index count last : ℕ) (rest : List ℕ) → index < 2 ^ 16 → instruction code pc (spelling (Insn.Interface index count last) ++ rest) ≡ Ok (Insn.Interface index count last, 5)
unfolding spelling opcode
interface_again code pc index count last rest small = ap (λ (n : ℕ). let d : Decoded = Ok (Insn.Interface n count last, 5) in d) (u2_again index small)

array_again : (code : List ℕ) (pc kind : ℕ) (rest : List ℕ) → instruction code pc (spelling (Insn.NewArray kind) ++ rest) ≡ Ok (Insn.NewArray kind, 2)
unfolding spelling opcode
array_again code pc kind rest = refl

multi_again : (code : List ℕ) (pc index dims : ℕ) (rest : List ℕ) → index < 2 ^ 16 → instruction code pc (spelling (Insn.Multi index dims) ++ rest) ≡ Ok (Insn.Multi index dims, 4)
unfolding spelling opcode
multi_again code pc index dims rest small = ap (λ (n : ℕ). let d : Decoded = Ok (Insn.Multi n dims, 4) in d) (u2_again index small)

-- An instruction's bytes, whatever stands behind them.
pub instruction_again : (code : List ℕ) (pc : ℕ) (i : Insn) (rest : List ℕ) → IsInsn i → IsSingle i → instruction code pc (spelling i ++ rest) ≡ Ok (i, length (spelling i))
unfolding spelling
instruction_again code pc (Insn.Plain op) rest valid single = ap (λ (found : Option Form). by_form code pc op found rest) valid
instruction_again code pc (Insn.Bipush value) rest valid single = bipush_again code pc value rest valid
instruction_again code pc (Insn.Sipush value) rest valid single = sipush_again code pc value rest valid
instruction_again code pc (Insn.Local op index wide) rest valid single = local_again code pc op index wide rest valid
instruction_again code pc (Insn.Iinc index by wide) rest valid single = increment_again code pc index by wide rest valid
instruction_again code pc (Insn.Pool op index) rest valid single = pool_again code pc op index rest valid
instruction_again code pc (Insn.Interface index count last) rest valid single = interface_again code pc index count last rest valid.0
instruction_again code pc (Insn.NewArray kind) rest valid single = array_again code pc kind rest
instruction_again code pc (Insn.Multi index dims) rest valid single = multi_again code pc index dims rest valid.0
instruction_again code pc (Insn.Branch op offset) rest valid single = branch_again code pc op offset rest valid
instruction_again code pc (Insn.TableSwitch table) rest valid single = absurd single
instruction_again code pc (Insn.LookupSwitch table) rest valid single = absurd single

-- An instruction whose bytes stand at pc is decoded there.
pub decoded_where_spelled : (code : List ℕ) (pc : ℕ) (i : Insn) (rest : List ℕ) → drop pc code ≡ spelling i ++ rest → IsInsn i → IsSingle i → decoded code pc ≡ Ok (i, length (spelling i))
unfolding decoded
decoded_where_spelled code pc i rest stands valid single = ap (instruction code pc) stands ∙ instruction_again code pc i rest valid single

pub decoded_after : (front : List ℕ) (i : Insn) (rest : List ℕ) → IsInsn i → IsSingle i → decoded (front ++ (spelling i ++ rest)) (length front) ≡ Ok (i, length (spelling i))
decoded_after front i rest valid single = decoded_where_spelled (front ++ (spelling i ++ rest)) (length front) i rest (drop_at front (spelling i ++ rest) (length front) refl) valid single

pub decoded_again : (front : List ℕ) (i : Insn) (rest : List ℕ) → IsInsn i → IsSingle i → decoded (front ++ spelling i ++ rest) (length front) ≡ Ok (i, length (spelling i))
decoded_again front i rest valid single = rw append_assoc (decoded_after front i rest valid single)
