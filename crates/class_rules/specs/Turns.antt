-- The instructions of code do not depend on the turns that are left, where there are as many as bytes.
use Rattle.std.proofs.Common.{◌≡◌, ℕ, zero, suc, ◌+◌, ◌-◌, ◌<◌, ◌≤◌, Bool, if◌then◌else◌, List, [], length, Ok, Err, refl, sym, ap, ◌∙◌, inl, inr, arith}
use Rattle.std.specs.Prelude.{Result}
use Rattle.std.proofs.lemmas.Bool.{eq-eqb, ne_eqb, cases_eq}
use Rattle.opcode_table.specs.declared.insn.Insn.{Insn}
use Rattle.opcode_table.specs.declared.fault.CodeFault.{CodeFault}
use Rattle.opcode_table.specs.Decoding.{Decoded, decoded}
use Rattle.opcode_table.specs.Bytes.{IsBytes}
use Rattle.opcode_table.specs.Spelling.{Stands}
use Rattle.opcode_table.specs.DecodedStands.{decoded_stands}
use Rattle.class_file.specs.Code.{Placed, in_front, placed, instructions_from}

abbrev Listed : Type 0
Listed = Result (List Placed) CodeFault

-- where the code ends no instruction is left
pub at_end : (code : List ℕ) (turns pc : ℕ) → pc ≡ length code → instructions_from code turns pc ≡ Ok []
at_end code zero pc end = refl
at_end code (suc turns) pc end =
    ap (λ (b : Bool). if b then Ok [] else placed pc (instructions_from code turns) (decoded code pc)) (eq-eqb pc (length code) end)

-- before its end one more turn is one more instruction
pub inside : (code : List ℕ) (turns pc : ℕ) → pc < length code → instructions_from code (suc turns) pc ≡ placed pc (instructions_from code turns) (decoded code pc)
inside code turns pc lt =
    ap (λ (b : Bool). if b then Ok [] else placed pc (instructions_from code turns) (decoded code pc)) (ne_eqb pc (length code) (λ e. omega arith))

placed_same : (code : List ℕ) (pc : ℕ) (next other : ℕ → Listed) (found : Decoded) → IsBytes code → decoded code pc ≡ found
    → ((place : ℕ) → pc < place → place ≤ length code → next place ≡ other place) → placed pc next found ≡ placed pc other found
placed_same code pc next other (Ok (insn, size)) bytes is same =
    let stands : Stands code pc insn size = decoded_stands code pc insn size bytes is in
    ap (in_front (record { pc = pc; insn = insn })) (same (pc + size) (omega (arith, stands.some)) stands.within)
placed_same code pc next other (Err fault) bytes is same = refl

pub turns_enough : (code : List ℕ) (more turns pc : ℕ) → IsBytes code → pc ≤ length code → length code ≤ pc + more → length code ≤ pc + turns
    → instructions_from code more pc ≡ instructions_from code turns pc
turns_enough code zero turns pc bytes within enough also = sym (at_end code turns pc (omega arith))
turns_enough code (suc more) zero pc bytes within enough also = at_end code (suc more) pc (omega arith)
turns_enough code (suc more) (suc turns) pc bytes within enough also =
    elim (cases_eq pc (length code)) [
      | inl end ↦ at_end code (suc more) pc end ∙ sym (at_end code (suc turns) pc end)
      | inr before ↦
          inside code more pc (omega (arith, before))
          ∙ placed_same code pc (instructions_from code more) (instructions_from code turns) (decoded code pc) bytes refl
          (λ place later inner. turns_enough code more turns place bytes inner (omega arith) (omega arith))
          ∙ sym (inside code turns pc (omega (arith, before)))
    ]

-- the instructions from a place on, with as many turns as bytes are left
abbrev pub instructions_at : List ℕ → ℕ → Result (List Placed) CodeFault
instructions_at code pc = instructions_from code (length code - pc) pc

-- the first of them is what stands there, and the others stand behind it
pub instructions_next : (code : List ℕ) (pc : ℕ) (insn : Insn) (size : ℕ) → IsBytes code → pc < length code → decoded code pc ≡ Ok (insn, size)
    → instructions_at code pc ≡ in_front (record { pc = pc; insn = insn }) (instructions_at code (pc + size))
instructions_next code pc insn size bytes lt is =
    let stands : Stands code pc insn size = decoded_stands code pc insn size bytes is in
    let left : length code - pc ≡ suc (length code - pc - 1) = omega arith in
    ap (λ (turns : ℕ). instructions_from code turns pc) left
    ∙ inside code (length code - pc - 1) pc lt
    ∙ ap (placed pc (instructions_from code (length code - pc - 1))) is
    ∙ ap (in_front (record { pc = pc; insn = insn }))
    (turns_enough code (length code - pc - 1) (length code - (pc + size)) (pc + size) bytes stands.within (omega (arith, stands.some)) (omega arith))

pub instructions_none : (code : List ℕ) (pc : ℕ) (fault : CodeFault) → pc < length code → decoded code pc ≡ Err fault → instructions_at code pc ≡ Err fault
instructions_none code pc fault lt is =
    let left : length code - pc ≡ suc (length code - pc - 1) = omega arith in
    ap (λ (turns : ℕ). instructions_from code turns pc) left
    ∙ inside code (length code - pc - 1) pc lt
    ∙ ap (placed pc (instructions_from code (length code - pc - 1))) is
