-- Code that is one instruction after the other, without branches: its instructions are those that it
-- spells, and it is without a fault where each has an operand of its kind.
use Rattle.std.proofs.Common.{◌≡◌, ℕ, zero, suc, ◌+◌, ◌≤◌, ◌==◌, Bool, true, false, if◌then◌else◌, List, [], ◌∷◌, length, drop, flat_map, Option, Some, None, Ok, refl, sym, ap, ◌∙◌, arith}
use Rattle.std.specs.List.{list_all, AllByRecursion}
use Rattle.std.proofs.lemmas.Bool.{cond-true, eq-eqb}
use Rattle.std.proofs.lemmas.List.{length-drop, length-append}
use Rattle.opcode_table.specs.declared.insn.Insn.{Insn}
use Rattle.opcode_table.specs.declared.insn.Insn.TheVariants as insn
use Rattle.opcode_table.specs.Decoding.{decoded}
use Rattle.opcode_table.specs.Spelling.{spelling, IsInsn, IsSingle}
use Rattle.opcode_table.specs.DecodedAgain.{decoded_where_spelled}
use Rattle.class_file.specs.declared.pool.PoolEntry.{PoolEntry}
use Rattle.class_file.specs.declared.types.CodeAttr.{CodeAttr}
use Rattle.class_file.specs.Code.{Placed, in_front, placed, instructions_from, instructions, offsets, has_operand, or_else, first_failing, leads_well, first_stray, fault_among, is_sized, code_fault}
use Rattle.woven_calls.specs.Laws.Forms.{drop_behind, ended_not}

-- ---- which instructions

-- the instruction leads to the next one alone
abbrev pub leads_on : Insn → Bool
leads_on (insn.Branch op offset) = false
leads_on (insn.TableSwitch table) = false
leads_on (insn.LookupSwitch table) = false
leads_on _ = true

no_offsets : (code : List ℕ) (i : Insn) → leads_on i ≡ true → offsets code i ≡ []
no_offsets code (insn.Branch op offset) h = let apart : false ≡ true = h in absurd cc
no_offsets code (insn.TableSwitch table) h = let apart : false ≡ true = h in absurd cc
no_offsets code (insn.LookupSwitch table) h = let apart : false ≡ true = h in absurd cc
no_offsets code _ h = refl

-- an instruction has at least one byte
pub spelled_some : (i : Insn) → IsSingle i → 1 ≤ length (spelling i)
unfolding spelling
spelled_some (insn.Local op index true) s = omega arith
spelled_some (insn.Local op index false) s = omega arith
spelled_some (insn.Iinc index by true) s = omega arith
spelled_some (insn.Iinc index by false) s = omega arith
spelled_some (insn.TableSwitch table) s = absurd s
spelled_some (insn.LookupSwitch table) s = absurd s
spelled_some _ s = omega arith

abbrev at_place : ℕ → Insn → Placed
at_place pc i = record { pc = pc; insn = i }

-- the instructions, one after the other from a place on
abbrev pub placed_from : ℕ → List Insn → List Placed
placed_from pc [] = []
placed_from pc (i ∷ insns) = at_place pc i ∷ placed_from (pc + length (spelling i)) insns

-- ---- the instructions of the code

module _ (code : List ℕ) where
  instructions_are : (turns pc : ℕ) (insns : List Insn) → AllByRecursion (λ i. IsInsn i × IsSingle i) insns → drop pc code ≡ flat_map spelling insns → pc ≤ length code → length code ≤ pc + turns
      → instructions_from code turns pc ≡ Ok (placed_from pc insns)
  instructions_are zero pc [] single stands within few = refl
  instructions_are zero pc (i ∷ insns) single stands within few =
      absurd (ended_not code pc i (length (spelling i)) (eq-eqb pc (length code) (omega arith)) (decoded_where_spelled code pc i (flat_map spelling insns) stands single.0.0 single.0.1))
  instructions_are (suc turns) pc [] single stands within few =
      let left = length-drop pc code in
      let none : length (drop pc code) ≡ 0 = ap length stands in
      cond-true (pc == length code) (Ok []) (placed pc (instructions_from code turns) (decoded code pc)) (eq-eqb pc (length code) (omega arith))
  instructions_are (suc turns) pc (i ∷ insns) single stands within few =
      let n = length (spelling i) in
      let here = decoded_where_spelled code pc i (flat_map spelling insns) stands single.0.0 single.0.1 in
      let left = length-drop pc code in
      let parts : length (drop pc code) ≡ n + length (flat_map spelling insns) = ap length stands ∙ length-append (spelling i) (flat_map spelling insns) in
      let some = spelled_some i single.0.1 in
      let rest = instructions_are turns (pc + n) insns single.1 (drop_behind code pc (spelling i) (flat_map spelling insns) stands) (omega arith) (omega arith) in
      go here rest (pc == length code) refl
    where
      go : decoded code pc ≡ Ok (i, length (spelling i)) → instructions_from code turns (pc + length (spelling i)) ≡ Ok (placed_from (pc + length (spelling i)) insns)
          → (b : Bool) → (pc == length code) ≡ b → (if b then Ok [] else placed pc (instructions_from code turns) (decoded code pc)) ≡ Ok (placed_from pc (i ∷ insns))
      go here rest true e = absurd (ended_not code pc i (length (spelling i)) e here)
      go here rest false e = ap (placed pc (instructions_from code turns)) here ∙ ap (in_front (at_place pc i)) rest

pub straight_instructions : (insns : List Insn) → AllByRecursion (λ i. IsInsn i × IsSingle i) insns → instructions (flat_map spelling insns) ≡ Ok (placed_from 0 insns)
straight_instructions insns single = instructions_are (flat_map spelling insns) (length (flat_map spelling insns)) 0 insns single refl (omega arith) (omega arith)

-- ---- faults

none_fail : (test : Insn → Bool) (pc : ℕ) (insns : List Insn) → AllByRecursion (λ i. test i ≡ true) insns → first_failing (λ p. test p.insn) (placed_from pc insns) ≡ None
none_fail test pc [] h = refl
none_fail test pc (i ∷ insns) h =
    cond-true (test i) (first_failing (λ p. test p.insn) (placed_from (pc + length (spelling i)) insns)) (Some pc) h.0 ∙ none_fail test (pc + length (spelling i)) insns h.1

all_test : (test : Insn → Bool) (pc : ℕ) (insns : List Insn) → first_failing (λ p. test p.insn) (placed_from pc insns) ≡ None → AllByRecursion (λ i. test i ≡ true) insns
all_test test pc [] h = tt
all_test test pc (i ∷ insns) h = go (all_test test (pc + length (spelling i)) insns) (test i) refl h
  where
    go : (first_failing (λ p. test p.insn) (placed_from (pc + length (spelling i)) insns) ≡ None → AllByRecursion (λ i. test i ≡ true) insns)
        → (b : Bool) → test i ≡ b → (if b then first_failing (λ p. test p.insn) (placed_from (pc + length (spelling i)) insns) else Some pc) ≡ None → (test i ≡ true) × AllByRecursion (λ i. test i ≡ true) insns
    go rest true e h = (e, rest h)
    go rest false e h = absurd cc

all_lead : (code : List ℕ) (all : List Placed) (pc : ℕ) (insns : List Insn) → AllByRecursion (λ i. leads_on i ≡ true) insns → first_failing (leads_well code all) (placed_from pc insns) ≡ None
all_lead code all pc [] h = refl
all_lead code all pc (i ∷ insns) h =
    let none : leads_well code all (at_place pc i) ≡ true = ap (list_all _) (no_offsets code i h.0) in
    cond-true (leads_well code all (at_place pc i)) (first_failing (leads_well code all) (placed_from (pc + length (spelling i)) insns)) (Some pc) none
    ∙ all_lead code all (pc + length (spelling i)) insns h.1

module _ (major : ℕ) (pool : List PoolEntry) (c : CodeAttr) (insns : List Insn) (single : AllByRecursion (λ i. IsInsn i × IsSingle i) insns) (spelled : c.code ≡ flat_map spelling insns) where
  are_instructions : instructions c.code ≡ Ok (placed_from 0 insns)
  are_instructions = ap instructions spelled ∙ straight_instructions insns single

  -- the code of such instructions is without a fault
  pub straight_is_sound : is_sized c.code ≡ true → c.entries ≡ [] → AllByRecursion (λ i. leads_on i ≡ true) insns → AllByRecursion (λ i. has_operand major pool i ≡ true) insns → code_fault major pool c ≡ None
  straight_is_sound sized no_entries lead operands =
      let ps = placed_from 0 insns in
      cond-true (is_sized c.code) (fault_among major pool c (instructions c.code)) (Some 0) sized
      ∙ ap (fault_among major pool c) are_instructions
      ∙ ap (λ o. or_else o (or_else (first_failing (leads_well c.code ps) ps) (first_stray c.code ps c.entries))) (none_fail (has_operand major pool) 0 insns operands)
      ∙ ap (λ o. or_else o (first_stray c.code ps c.entries)) (all_lead c.code ps 0 insns lead)
      ∙ ap (first_stray c.code ps) no_entries

  -- code without a fault has instructions whose operands are of their kinds
  pub operands_of : code_fault major pool c ≡ None → AllByRecursion (λ i. has_operand major pool i ≡ true) insns
  operands_of h = sized (is_sized c.code) h
    where
      found : (o rest : Option ℕ) → first_failing (λ p. has_operand major pool p.insn) (placed_from 0 insns) ≡ o → or_else o rest ≡ None → AllByRecursion (λ i. has_operand major pool i ≡ true) insns
      found None rest is e = all_test (has_operand major pool) 0 insns is
      found (Some n) rest is e = absurd cc

      sized : (b : Bool) → (if b then fault_among major pool c (instructions c.code) else Some 0) ≡ None → AllByRecursion (λ i. has_operand major pool i ≡ true) insns
      sized true e =
          found (first_failing (λ p. has_operand major pool p.insn) (placed_from 0 insns)) (or_else (first_failing (leads_well c.code (placed_from 0 insns)) (placed_from 0 insns)) (first_stray c.code (placed_from 0 insns) c.entries)) refl
          (sym (ap (fault_among major pool c) are_instructions) ∙ e)
      sized false e = absurd cc
