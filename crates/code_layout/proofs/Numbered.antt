-- Lists that a function of the number gives.
use Rattle.std.proofs.Common.{◌≡◌, ℕ, ◌+◌, List, [], ◌∷◌, ◌++◌, refl, add-one}
use Rattle.class_file.specs.Code.{numbered}

pub numbered_more : {X : Type 0} (n : ℕ) (f : ℕ → X) → numbered (n + 1) f ≡ numbered n f ++ f n ∷ []
numbered_more n f = rw add-one refl

pub numbered_push : {X : Type 0} (f : ℕ → X) (n : ℕ) (xs ys : List X) (x : X) → ys ≡ xs ++ x ∷ [] → xs ≡ numbered n f → x ≡ f n → ys ≡ numbered (n + 1) f
numbered_push f n xs ys x pushed before here = let e = numbered_more n f in cc
