-- The elements at the front that pass a test.
use Rattle.std.proofs.Common.{◌≡◌, Bool, true, false, cond, List, [], ◌∷◌, length, take, refl, sym, ap, subst}
use Rattle.std.specs.List.{take_while}
use Rattle.std.proofs.lemmas.List.Sums.{take_while-cons}

pub taken : {X : Type 0} (test : X → Bool) (xs : List X) → take (length (take_while test xs)) xs ≡ take_while test xs
taken test [] = refl
taken test (x ∷ xs) =
    subst (λ (l : List _). take (length l) (x ∷ xs) ≡ l) (sym (take_while-cons test x xs))
    (elim (test x) as (λ t. take (length (cond t (x ∷ take_while test xs) [])) (x ∷ xs) ≡ cond t (x ∷ take_while test xs) []) [
      | true ↦ ap (λ (l : List _). x ∷ l) (taken test xs)
      | false ↦ refl
    ])
