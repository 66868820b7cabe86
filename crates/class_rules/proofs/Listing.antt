-- The instructions up to a place, and those from it on.
use Rattle.std.proofs.Common.{◌≡◌, ℕ, ◌+◌, ◌-◌, ◌<◌, ◌≤◌, List, [], ◌∷◌, ◌++◌, length, Result, Ok, Err, refl, sym, ap, ◌∙◌, arith}
use Rattle.std.specs.Prelude.{map}
use Rattle.std.proofs.lemmas.List.{append_assoc, append-nil, map_push}
use Rattle.opcode_table.specs.declared.insn.Insn.{Insn}
use Rattle.opcode_table.specs.declared.fault.CodeFault.{CodeFault}
use Rattle.opcode_table.specs.Decoding.{decoded}
use Rattle.opcode_table.specs.Bytes.{IsBytes}
use Rattle.class_file.specs.Code.{Placed, in_front}
use Rattle.class_rules.specs.declared.instructions.Placed as kept
use Rattle.class_rules.specs.Instructions.{as_placed}
use Rattle.class_rules.specs.Turns.{instructions_at, instructions_next, instructions_none, at_end}

-- those in front of others, if there are others
abbrev pub prefixed : List Placed → Result (List Placed) CodeFault → Result (List Placed) CodeFault
prefixed front (Ok others) = Ok (front ++ others)
prefixed front (Err fault) = Err fault

shifted : (front : List Placed) (p : Placed) (others : Result (List Placed) CodeFault) → prefixed (front ++ p ∷ []) others ≡ prefixed front (in_front p others)
shifted front p (Ok others) = ap (λ (all : List Placed). Ok all) (append_assoc front (p ∷ []) others)
shifted front p (Err fault) = refl

module _ (code : List ℕ) (pc : ℕ) (insns : List kept.Placed) (total : Result (List Placed) CodeFault) (so_far : prefixed (map as_placed insns) (instructions_at code pc) ≡ total) where
  pub one_more : (insn : Insn) (size : ℕ) → IsBytes code → pc < length code → decoded code pc ≡ Ok (insn, size)
      → prefixed (map as_placed (insns ++ record { pc = pc; insn = insn } ∷ [])) (instructions_at code (pc + size)) ≡ total
  one_more insn size bytes lt is =
      ap (λ (front : List Placed). prefixed front (instructions_at code (pc + size))) (map_push as_placed insns (record { pc = pc; insn = insn }))
      ∙ shifted (map as_placed insns) (record { pc = pc; insn = insn }) (instructions_at code (pc + size))
      ∙ ap (prefixed (map as_placed insns)) (sym (instructions_next code pc insn size bytes lt is)) ∙ so_far

  pub none_there : (fault : CodeFault) → pc < length code → decoded code pc ≡ Err fault → Err fault ≡ total
  none_there fault lt is = ap (prefixed (map as_placed insns)) (sym (instructions_none code pc fault lt is)) ∙ so_far

  pub all_listed : length code ≤ pc → pc ≤ length code → Ok (map as_placed insns) ≡ total
  all_listed past within =
      ap (λ (all : List Placed). Ok all) (sym (append-nil (map as_placed insns)))
      ∙ ap (prefixed (map as_placed insns)) (sym (at_end code (length code - pc) pc (omega arith))) ∙ so_far
