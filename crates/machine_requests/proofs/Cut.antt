-- A count less.
use Rattle.std.specs.Prelude.{◌≡◌, ℕ, suc, ◌+◌, ◌<◌, List, [], ◌∷◌, ◌++◌, length, take, Option, Some, None, MatchOption, refl}
use Rattle.std.proofs.Common.{sym, ap, ◌∙◌, arith, length-append}
use Rattle.std.proofs.lemmas.List.{take-append-le}

abbrev Popped : Option ℕ → List ℕ → List ℕ → Type 0
Popped r old new = MatchOption r ((old ≡ []) × (new ≡ [])) (λ last. old ≡ new ++ last ∷ [])

pub one_less : (r : Option ℕ) (old new : List ℕ) (count : ℕ) → count < length old → Popped r old new → length old ≡ length new + 1
one_less None old new count more h = absurd (let n = ap length h.0 in omega arith)
one_less (Some last) old new count more h = ap length h ∙ length-append new (last ∷ [])

pub same_begin : (r : Option ℕ) (old new : List ℕ) (count : ℕ) → count < length old → Popped r old new → take count new ≡ take count old
same_begin None old new count more h = ap (take count) (h.1 ∙ sym h.0)
same_begin (Some last) old new count more h =
    let n = ap length h ∙ length-append new (last ∷ []) in
    sym (ap (take count) h ∙ take-append-le count new (last ∷ []) (omega arith))
