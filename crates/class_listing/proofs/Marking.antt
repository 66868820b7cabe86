-- The table of the places that are named.
use Rattle.std.proofs.Common.{◌≡◌, ℕ, ◌<◌, Bool, true, false, List, [], ◌∷◌, ◌++◌, length, get_or, refl, sym, ap, ◌∙◌, arith, ℤ}
use Rattle.std.specs.Prelude.{◌||◌}
use Rattle.std.specs.List.{list_any}
use Rattle.class_listing.specs.Steps.{is_at}
use Rattle.class_listing.specs.Walked.{AreMarks}

any_more : (pc : ℕ) (places : List ℤ) (place : ℤ) → list_any (is_at pc) (places ++ place ∷ []) ≡ (list_any (is_at pc) places || is_at pc place)
any_more pc [] place = elim (is_at pc place) as (λ b. (b || false) ≡ (false || b)) [ true ↦ refl | false ↦ refl ]
any_more pc (q ∷ places) place =
    ap (λ (b : Bool). is_at pc q || b) (any_more pc places place)
    ∙ elim (is_at pc q) as (λ b. (b || (list_any (is_at pc) places || is_at pc place)) ≡ ((b || list_any (is_at pc) places) || is_at pc place)) [ true ↦ refl | false ↦ refl ]

-- one more place is marked
pub marks_more : (size : ℕ) (places more : List ℤ) (place : ℤ) (marks marks' : List Bool) → AreMarks size places marks → more ≡ places ++ place ∷ [] → length marks' ≡ length marks
    → ((pc : ℕ) → pc < length marks → get_or marks' pc false ≡ (get_or marks pc false || is_at pc place)) → AreMarks size more marks'
marks_more size places more place marks marks' are is rows each =
    let n = are.rows in
    record {
      rows = rows ∙ are.rows;
      each = λ pc lt.
          each pc (omega arith) ∙ ap (λ (b : Bool). b || is_at pc place) (are.each pc lt)
          ∙ sym (any_more pc places place) ∙ ap (list_any (is_at pc)) (sym is);
    }
