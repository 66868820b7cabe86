-- Items of lists by their places.
use Rattle.std.proofs.Common.{◌≡◌, ℕ, zero, suc, ◌+◌, ◌<◌, Bool, true, false, cond, List, [], ◌∷◌, ◌++◌, length, take, drop, get_or, Option, Some, None, refl, sym, ap, subst, ◌∙◌, arith}
use Rattle.std.specs.Prelude.{slice_get}
use Rattle.std.specs.List.{AllByRecursion, AllZip, find}
use Rattle.std.proofs.Math.Seq.{drop-cons}
use Rattle.std.proofs.lemmas.Option.{none-some}

pub drop_at : {X : Type 0} (xs : List X) (i : ℕ) (x : X) → i < length xs → x ≡ get_or xs i x → drop i xs ≡ x ∷ drop (i + 1) xs
drop_at xs i x lt e = let one : suc i ≡ i + 1 = omega arith in drop-cons xs i x lt ∙ ap (λ y. y ∷ drop (suc i) xs) (sym e) ∙ ap (λ k. x ∷ drop k xs) one

pub all_at : {X : Type 0} (P : X → Type 0) (xs : List X) (i : ℕ) (x : X) → AllByRecursion P xs → i < length xs → x ≡ get_or xs i x → P x
all_at P [] i x h lt e = absurd (omega arith)
all_at P (y ∷ xs) zero x h lt e = subst P (sym e) h.0
all_at P (y ∷ xs) (suc i) x h lt e = all_at P xs i x h.1 (omega arith) e

pub zip_more : {A B : Type 0} (R : A → B → Type 0) (xs : List A) (ys : List B) (x : A) (y : B) → AllZip R xs ys → R x y → AllZip R (xs ++ x ∷ []) (ys ++ y ∷ [])
zip_more R [] [] x y z r = (r, tt)
zip_more R [] (y' ∷ ys) x y z r = absurd z
zip_more R (x' ∷ xs) [] x y z r = absurd z
zip_more R (x' ∷ xs) (y' ∷ ys) x y z r = (z.0, zip_more R xs ys x y z.1 r)

abbrev some : {X : Type 0} → X → Option X
some x = Some x

-- the item behind these ones
pub slice_get_behind : {X : Type 0} (xs ys : List X) (x : X) → slice_get (xs ++ x ∷ ys) (length xs) ≡ Some x
slice_get_behind [] ys x = refl
slice_get_behind (y ∷ xs) ys x = slice_get_behind xs ys x

-- the first that passes is the one behind those that fail
pub find_behind : {X : Type 0} (p : X → Bool) (xs ys : List X) (x : X) → find p xs ≡ None → p x ≡ true → find p (xs ++ x ∷ ys) ≡ Some x
find_behind p [] ys x e h = ap (λ (b : Bool). cond b (some x) (find p ys)) h
find_behind p (y ∷ xs) ys x e h = by (p y) e (λ d. find_behind p xs ys x d h)
  where
    by : (b : Bool) → cond b (some y) (find p xs) ≡ None → (find p xs ≡ None → find p (xs ++ x ∷ ys) ≡ Some x) → cond b (some y) (find p (xs ++ x ∷ ys)) ≡ Some x
    by true e later = absurd (none-some y (sym e))
    by false e later = later e

-- none passes where those up to a place and that one fail
pub find_none_more : {X : Type 0} (p : X → Bool) (xs : List X) (x : X) → find p xs ≡ None → p x ≡ false → find p (xs ++ x ∷ []) ≡ None
find_none_more p [] x e h = ap (λ (b : Bool). cond b (some x) None) h
find_none_more p (y ∷ xs) x e h = by (p y) e (λ d. find_none_more p xs x d h)
  where
    by : (b : Bool) → cond b (some y) (find p xs) ≡ None → (find p xs ≡ None → find p (xs ++ x ∷ []) ≡ None) → cond b (some y) (find p (xs ++ x ∷ [])) ≡ None
    by true e later = absurd (none-some y (sym e))
    by false e later = later e

-- the items up to a place, that one and the others
pub split_at : {X : Type 0} (xs : List X) (i : ℕ) (x : X) → i < length xs → x ≡ get_or xs i x → xs ≡ take i xs ++ x ∷ drop (i + 1) xs
split_at [] i x lt e = absurd (omega arith)
split_at (y ∷ xs) zero x lt e = ap (λ z. z ∷ xs) (sym e)
split_at (y ∷ xs) (suc i) x lt e =
    let one : suc i + 1 ≡ suc (i + 1) = omega arith in
    ap (λ zs. y ∷ zs) (split_at xs i x (omega arith) e) ∙ ap (λ k. y ∷ (take i xs ++ x ∷ drop k (y ∷ xs))) (sym one)
