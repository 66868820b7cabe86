-- Instructions one after the other, as a loop tests them.
use Rattle.std.proofs.Common.{◌≡◌, ℕ, suc, ◌-◌, ◌+◌, ◌<◌, Bool, false, eqb, List, length, Some, None, sym, ◌∙◌, arith}
use Rattle.std.proofs.lemmas.Bool.{ne_eqb}
use Rattle.opcode_table.specs.declared.insn.Insn.{Insn}
use Rattle.class_file.specs.FirstForm.{insns_pass, Steps}

pub goes_on : (test : Insn → Bool) (code : List ℕ) (count i pc place : ℕ) (total : Bool) → i < count → (pc ≡ length code → ⊥) → Steps test code pc (Some place)
    → insns_pass test code (count - i) pc ≡ total → insns_pass test code (count - (i + 1)) place ≡ total
goes_on test code count i pc place total lt inside steps so_far =
    let k : count - i ≡ suc (count - (i + 1)) = omega arith in
    let before : eqb pc (length code) ≡ false = ne_eqb _ _ inside in
    let one : insns_pass test code (count - i) pc ≡ insns_pass test code (count - (i + 1)) place = rw (k, before) (steps (insns_pass test code (count - (i + 1)))) in
    sym one ∙ so_far

pub fails : (test : Insn → Bool) (code : List ℕ) (count i pc : ℕ) (total : Bool) → i < count → (pc ≡ length code → ⊥) → Steps test code pc None → insns_pass test code (count - i) pc ≡ total → false ≡ total
fails test code count i pc total lt inside steps so_far =
    let k : count - i ≡ suc (count - (i + 1)) = omega arith in
    let before : eqb pc (length code) ≡ false = ne_eqb _ _ inside in
    let one : insns_pass test code (count - i) pc ≡ false = rw (k, before) (steps (insns_pass test code (count - (i + 1)))) in
    sym one ∙ so_far
