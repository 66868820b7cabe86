-- What holds of the elements at each place of two lists, and of one more.
use Rattle.std.proofs.Common.{◌≡◌, ℕ, zero, suc, ◌+◌, ◌<◌, ◌≤◌, List, [], ◌∷◌, ◌++◌, length, take, drop, get_or, arith, refl, sym, ap, subst, add-one}
use Rattle.std.specs.List.{AllZip}
use Rattle.std.proofs.lemmas.List.{take_all}

module _ {A B : Type 0} (R : A → B → Type 0) where
  more : (xs : List A) (ys : List B) (i : ℕ) (d : A) (y : B) → i < length xs → AllZip R (take i xs) ys → R (get_or xs i d) y → AllZip R (take (suc i) xs) (ys ++ y ∷ [])
  more [] ys i d y lt all here = absurd (omega arith)
  more (x ∷ xs) [] zero d y lt all here = (here, tt)
  more (x ∷ xs) (y' ∷ ys) zero d y lt all here = absurd all
  more (x ∷ xs) [] (suc i) d y lt all here = absurd all
  more (x ∷ xs) (y' ∷ ys) (suc i) d y lt all here = (all.0, more xs ys i d y (omega arith) all.1 here)

  -- one more element of each
  pub zip_more : (xs : List A) (ys ys' : List B) (i : ℕ) (d : A) (y : B) → i < length xs → AllZip R (take i xs) ys → R (get_or xs i d) y → ys' ≡ ys ++ y ∷ [] → AllZip R (take (i + 1) xs) ys'
  zip_more xs ys ys' i d y lt all here is = rw (is, add-one) (more xs ys i d y lt all here)

  pub zip_all : (xs : List A) (ys : List B) (i : ℕ) → length xs ≤ i → AllZip R (take i xs) ys → AllZip R xs ys
  zip_all xs ys i le all = rw (← take_all i xs le) all

-- a list around one of its elements
pub split_at : {A : Type 0} (xs : List A) (i : ℕ) (d : A) → i < length xs → xs ≡ take i xs ++ get_or xs i d ∷ drop (suc i) xs
split_at [] i d lt = absurd (omega arith)
split_at (x ∷ xs) zero d lt = refl
split_at (x ∷ xs) (suc i) d lt = ap (λ t. x ∷ t) (split_at xs i d (omega arith))
