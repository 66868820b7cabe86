-- The first stray place of an exception table, as a loop finds it.
use Rattle.std.proofs.Common.{◌≡◌, ◌+◌, ◌<◌, ℕ, List, length, drop, get_or, Option, Some, None, sym, ap, ◌∙◌}
use Rattle.std.proofs.lemmas.List.{at_drop_more}
use Rattle.class_file.specs.declared.types.ExceptionEntry.{ExceptionEntry}
use Rattle.class_file.specs.Code.{Placed, or_else, stray_in, first_stray}

module _ (code : List ℕ) (insns : List Placed) (entries : List ExceptionEntry) (i : ℕ) (d : ExceptionEntry) (here : i < length entries) (found total : Option ℕ)
    (is : found ≡ stray_in code insns (get_or entries i d)) (so_far : first_stray code insns (drop i entries) ≡ total) where
  step : or_else found (first_stray code insns (drop (i + 1) entries)) ≡ total
  step =
      ap (λ (o : Option ℕ). or_else o (first_stray code insns (drop (i + 1) entries))) is
      ∙ sym (at_drop_more (first_stray code insns) entries i d here) ∙ so_far

  pub stray_here : (place : ℕ) → found ≡ Some place → Some place ≡ total
  stray_here place stray = ap (λ (o : Option ℕ). or_else o (first_stray code insns (drop (i + 1) entries))) (sym stray) ∙ step

  pub none_here : found ≡ None → first_stray code insns (drop (i + 1) entries) ≡ total
  none_here none = ap (λ (o : Option ℕ). or_else o (first_stray code insns (drop (i + 1) entries))) (sym none) ∙ step
