-- The walk over code, instruction by instruction.
use Rattle.std.proofs.Common.{◌≡◌, ℕ, zero, suc, ◌+◌, ◌-◌, ◌<◌, ◌≤◌, Bool, true, false, eqb, cond, List, [], ◌∷◌, ◌++◌, length, Some, None, Result, Ok, Err, refl, sym, ap, subst, ◌∙◌, arith}
use Rattle.std.specs.Prelude.{map}
use Rattle.std.specs.List.{AllByRecursion}
use Rattle.std.proofs.lemmas.List.{map-append}
use Rattle.std.proofs.lemmas.Bool.{ne_eqb, eq-eqb}
use Rattle.opcode_table.specs.declared.insn.Insn.{Insn}
use Rattle.opcode_table.specs.declared.fault.CodeFault.{CodeFault}
use Rattle.opcode_table.specs.Decoding.{Decoded, decoded}
use Rattle.opcode_table.specs.Bytes.{IsBytes}
use Rattle.opcode_table.specs.DecodedStands.{decoded_stands}
use Rattle.class_file.specs.Code.{Placed, in_front, placed, instructions_from, instructions}
use Rattle.class_listing.specs.declared.walk.Step.{Step}
use Rattle.class_listing.specs.Steps.{found}
use Rattle.class_listing.specs.Walked.{placed_of, IsStep}

abbrev Listing : Type 0
Listing = Result (List Placed) CodeFault

-- ---- as many turns as there are bytes left are enough

module _ (code : List ℕ) (fits : IsBytes code) where
  from_here : (t u pc : ℕ) (d : Decoded) → decoded code pc ≡ d → ((pc' : ℕ) → pc < pc' → pc' ≤ length code → instructions_from code t pc' ≡ instructions_from code u pc')
      → placed pc (instructions_from code t) d ≡ placed pc (instructions_from code u) d
  from_here t u pc (Err fault) is same = refl
  from_here t u pc (Ok (insn, size)) is same =
      let stands = decoded_stands code pc insn size fits is in
      let some = stands.some in
      ap (in_front (record { pc = pc; insn = insn })) (same (pc + size) (omega arith) stands.within)

  enough : (t u pc : ℕ) → pc ≤ length code → length code ≤ pc + t → length code ≤ pc + u → instructions_from code t pc ≡ instructions_from code u pc
  enough zero zero pc le et eu = refl
  enough zero (suc u) pc le et eu = let e : eqb pc (length code) ≡ true = eq-eqb pc (length code) (omega arith) in rw e refl
  enough (suc t) zero pc le et eu = let e : eqb pc (length code) ≡ true = eq-eqb pc (length code) (omega arith) in rw e refl
  enough (suc t) (suc u) pc le et eu =
      ap (λ (l : Listing). cond (eqb pc (length code)) (Ok []) l)
      (from_here t u pc (decoded code pc) refl (λ pc' lt le'. enough t u pc' le' (omega arith) (omega arith)))

  -- the instruction at a place before the end, and then those behind it
  listed : (pc : ℕ) (x : Insn × ℕ) → pc < length code → decoded code pc ≡ Ok x
      → instructions_from code (length code - pc) pc ≡ in_front (record { pc = pc; insn = x.0 }) (instructions_from code (length code - (pc + x.1)) (pc + x.1))
  listed pc x lt is =
      let stands = decoded_stands code pc x.0 x.1 fits is in
      let some = stands.some in let within = stands.within in
      let e : eqb pc (length code) ≡ false = ne_eqb pc (length code) (λ same. omega arith) in
      let n : length code - pc ≡ suc (length code - pc - 1) = omega arith in
      ap (λ (t : ℕ). instructions_from code t pc) n
      ∙ ap (λ (b : Bool). let l : Listing = cond b (Ok []) (placed pc (instructions_from code (length code - pc - 1)) (decoded code pc)) in l) e
      ∙ ap (placed pc (instructions_from code (length code - pc - 1))) is
      ∙ ap (in_front (record { pc = pc; insn = x.0 })) (enough (length code - pc - 1) (length code - (pc + x.1)) (pc + x.1) within (omega arith) (omega arith))

  failed : (pc : ℕ) (fault : CodeFault) → pc < length code → decoded code pc ≡ Err fault → instructions_from code (length code - pc) pc ≡ Err fault
  failed pc fault lt is =
      let e : eqb pc (length code) ≡ false = ne_eqb pc (length code) (λ same. omega arith) in
      let n : length code - pc ≡ suc (length code - pc - 1) = omega arith in
      ap (λ (t : ℕ). instructions_from code t pc) n
      ∙ ap (λ (b : Bool). let l : Listing = cond b (Ok []) (placed pc (instructions_from code (length code - pc - 1)) (decoded code pc)) in l) e
      ∙ ap (placed pc (instructions_from code (length code - pc - 1))) is

-- ---- instructions in front of others

abbrev pub in_front_all : List Placed → Listing → Listing
in_front_all [] rest = rest
in_front_all (p ∷ insns) rest = in_front p (in_front_all insns rest)

front_more : (insns : List Placed) (p : Placed) (rest : Listing) → in_front_all (insns ++ p ∷ []) rest ≡ in_front_all insns (in_front p rest)
front_more [] p rest = refl
front_more (q ∷ insns) p rest = ap (in_front q) (front_more insns p rest)

front_end : (insns : List Placed) → in_front_all insns (Ok []) ≡ Ok insns
front_end [] = refl
front_end (p ∷ insns) = ap (in_front p) (front_end insns)

front_fault : (insns : List Placed) (fault : CodeFault) → in_front_all insns (Err fault) ≡ Err fault
front_fault [] fault = refl
front_fault (p ∷ insns) fault = ap (in_front p) (front_fault insns fault)

-- ---- the loop

-- the code up to pc was walked
pub record Walked (code : List ℕ) (pc : ℕ) (steps : List Step) : Type 0 where
  pub within : pc ≤ length code
  pub listed : instructions code ≡ in_front_all (map placed_of steps) (instructions_from code (length code - pc) pc)
  pub each : AllByRecursion (IsStep code) steps

pub walk_begins : (code : List ℕ) (steps : List Step) → steps ≡ [] → Walked code 0 steps
walk_begins code steps none =
    let begun : Walked code 0 [] = record {
      within = omega arith;
      listed = let e : length code ≡ length code - 0 = omega arith in ap (λ (t : ℕ). instructions_from code t 0) e;
      each = tt;
    } in subst (λ (l : List Step). Walked code 0 l) (sym none) begun

each_more : (code : List ℕ) (steps : List Step) (s : Step) → AllByRecursion (IsStep code) steps → IsStep code s → AllByRecursion (IsStep code) (steps ++ s ∷ [])
each_more code [] s all here = (here, tt)
each_more code (q ∷ steps) s all here = (all.0, each_more code steps s all.1 here)

pub walk_goes_on : (code : List ℕ) (pc : ℕ) (steps steps' : List Step) (insn : Insn) (size : ℕ) → IsBytes code → Walked code pc steps → pc < length code → decoded code pc ≡ Ok (insn, size)
    → steps' ≡ steps ++ record { pc = pc; insn = insn } ∷ [] → Walked code (pc + size) steps'
walk_goes_on code pc steps steps' insn size fits w lt is more =
    let s : Step = record { pc = pc; insn = insn } in
    let p : Placed = record { pc = pc; insn = insn } in
    let stands = decoded_stands code pc insn size fits is in
    let insns : map placed_of steps' ≡ map placed_of steps ++ p ∷ [] = ap (map placed_of) more ∙ map-append placed_of steps (s ∷ []) in
    let here : IsStep code s = record { within = lt; switch = stands.switch } in
    record {
      within = stands.within;
      listed = w.listed ∙ ap (in_front_all (map placed_of steps)) (listed code fits pc (insn, size) lt is)
          ∙ sym (front_more (map placed_of steps) p (instructions_from code (length code - (pc + size)) (pc + size)))
          ∙ ap (λ (l : List Placed). in_front_all l (instructions_from code (length code - (pc + size)) (pc + size))) (sym insns);
      each = subst (λ (l : List Step). AllByRecursion (IsStep code) l) (sym more) (each_more code steps s w.each here);
    }

end_of : (code : List ℕ) (pc : ℕ) → length code ≤ pc → instructions_from code (length code - pc) pc ≡ Ok []
end_of code pc le = let e : length code - pc ≡ 0 = omega arith in ap (λ (t : ℕ). instructions_from code t pc) e

pub walk_ends : (code : List ℕ) (pc : ℕ) (steps : List Step) → Walked code pc steps → length code ≤ pc → found (instructions code) ≡ Some (map placed_of steps)
walk_ends code pc steps w le = ap found (w.listed ∙ ap (in_front_all (map placed_of steps)) (end_of code pc le) ∙ front_end (map placed_of steps))

pub walk_fails : (code : List ℕ) (pc : ℕ) (steps : List Step) (fault : CodeFault) → IsBytes code → Walked code pc steps → pc < length code → decoded code pc ≡ Err fault → found (instructions code) ≡ None
walk_fails code pc steps fault fits w lt is = ap found (w.listed ∙ ap (in_front_all (map placed_of steps)) (failed code fits pc fault lt is) ∙ front_fault (map placed_of steps) fault)
