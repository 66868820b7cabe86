-- The first instruction that fails a test, as a loop over them finds it.
use Rattle.std.proofs.Common.{◌≡◌, ◌+◌, ◌<◌, ℕ, Bool, true, false, if◌then◌else◌, List, length, drop, get_or, Option, Some, sym, ◌∙◌}
use Rattle.std.specs.Prelude.{map}
use Rattle.std.proofs.lemmas.List.{at_drop_more}
use Rattle.class_file.specs.Code.{Placed, first_failing}
use Rattle.class_rules.specs.declared.instructions.Placed as kept
use Rattle.class_rules.specs.Instructions.{as_placed}

passed_here : (answer : Bool) (next total : Option ℕ) (pc : ℕ) → answer ≡ true → (if answer then next else Some pc) ≡ total → next ≡ total
passed_here true next total pc passes so_far = so_far
passed_here false next total pc passes so_far = absurd cc

pub another : (test : Placed → Bool) (insns : List kept.Placed) (i : ℕ) (d : kept.Placed) (total : Option ℕ) → i < length insns → first_failing test (map as_placed (drop i insns)) ≡ total
    → test (as_placed (get_or insns i d)) ≡ true → first_failing test (map as_placed (drop (i + 1) insns)) ≡ total
another test insns i d total here so_far passes =
    passed_here (test (as_placed (get_or insns i d))) (first_failing test (map as_placed (drop (i + 1) insns))) total (get_or insns i d).pc passes
    (sym (at_drop_more (λ (part : List kept.Placed). first_failing test (map as_placed part)) insns i d here) ∙ so_far)
