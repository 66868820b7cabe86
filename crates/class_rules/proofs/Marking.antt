-- One more instruction marked.
use Rattle.std.proofs.Common.{◌≡◌, ◌+◌, ◌<◌, ℕ, Bool, true, false, ◌||◌, eqb, List, [], ◌∷◌, ◌++◌, length, take, get_or, set, refl, sym, ap, ◌∙◌, inl, inr, arith}
use Rattle.std.specs.Prelude.{map}
use Rattle.std.specs.List.{All}
use Rattle.std.proofs.lemmas.Bool.{cases_eq, eq-eqb, ne_eqb}
use Rattle.std.proofs.lemmas.List.{get_or-set_same, get_or-set_other, map_more}
use Rattle.std.proofs.lemmas.List.Folds.{list_any-append}
use Rattle.class_file.specs.Code.{Placed, is_start}
use Rattle.class_rules.specs.declared.instructions.Placed as kept
use Rattle.class_rules.specs.Instructions.{as_placed}
use Rattle.class_rules.specs.Starts.{is_marked}

start_more : (insns : List Placed) (p : Placed) (pc : ℕ) → is_start (insns ++ p ∷ []) pc ≡ (is_start insns pc || (eqb p.pc pc || false))
start_more insns p pc = list_any-append (λ (q : Placed). eqb q.pc pc) insns (p ∷ [])

or_true : (a b : Bool) → b ≡ true → (a || (b || false)) ≡ true
or_true true b h = refl
or_true false true h = refl
or_true false false h = absurd cc

or_false : (a b : Bool) → b ≡ false → (a || (b || false)) ≡ a
or_false true b h = refl
or_false false true h = absurd cc
or_false false false h = refl

marked_one : (marks : List Bool) (insns : List Placed) (p : Placed) → p.pc < length marks → ((pc : ℕ) → is_marked marks pc ≡ is_start insns pc) → (pc : ℕ) → is_marked (set marks p.pc true) pc ≡ is_start (insns ++ p ∷ []) pc
marked_one marks insns p within marked pc =
    elim (cases_eq p.pc pc) [
      | inl e ↦ ap (λ (n : ℕ). get_or (set marks p.pc true) n false) (sym e) ∙ get_or-set_same marks p.pc true false within
          ∙ sym (start_more insns p pc ∙ or_true (is_start insns pc) (eqb p.pc pc) (eq-eqb p.pc pc e))
      | inr ne ↦ get_or-set_other marks p.pc pc true false (λ e. ne (sym e)) ∙ marked pc
          ∙ sym (start_more insns p pc ∙ or_false (is_start insns pc) (eqb p.pc pc) (ne_eqb p.pc pc ne))
    ]

pub marked_more : (marks : List Bool) (insns : List kept.Placed) (n i : ℕ) (d : kept.Placed) → i < length insns → All (λ (p : kept.Placed). p.pc < n) insns → length marks ≡ n
    → ((pc : ℕ) → is_marked marks pc ≡ is_start (map as_placed (take i insns)) pc) → (pc : ℕ) → is_marked (set marks (get_or insns i d).pc true) pc ≡ is_start (map as_placed (take (i + 1) insns)) pc
marked_more marks insns n i d here below long marked pc =
    let within : (get_or insns i d).pc < length marks = omega (arith, below i d here, long) in
    marked_one marks (map as_placed (take i insns)) (as_placed (get_or insns i d)) within marked pc
    ∙ ap (λ (all : List Placed). is_start all pc) (sym (map_more as_placed insns i d here))
