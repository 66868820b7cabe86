-- Lists that a function of the number gives.
use Rattle.std.proofs.Common.{◌≡◌, ℕ, ◌+◌, [], ◌∷◌, ◌++◌, refl, add-one}
use Rattle.class_file.specs.Code.{numbered}

pub numbered_more : {X : Type 0} (n : ℕ) (f : ℕ → X) → numbered (n + 1) f ≡ numbered n f ++ f n ∷ []
numbered_more n f = rw add-one refl
