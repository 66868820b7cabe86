-- Lists by places, and lists of a function's values.
use Rattle.std.specs.Prelude.{◌≡◌, ℕ, zero, suc, ◌+◌, ◌<◌, ◌≤◌, List, [], ◌∷◌, ◌++◌, length, slice_get, Some, None, refl}
use Rattle.std.proofs.Common.{ap, ◌∙◌, arith, inl, inr, length-append}
use Rattle.std.proofs.lemmas.Bool.{cases_lt}
use Rattle.std.proofs.lemmas.Option.{slice_get_past}
use Rattle.class_file.specs.Code.{numbered}

pub get_front : {X : Type 0} (xs ys : List X) (i : ℕ) → i < length xs → slice_get (xs ++ ys) i ≡ slice_get xs i
get_front [] ys i h = absurd (omega arith)
get_front (x ∷ xs) ys zero h = refl
get_front (x ∷ xs) ys (suc i) h = get_front xs ys i (omega arith)

pub get_behind : {X : Type 0} (xs ys : List X) (i : ℕ) → slice_get (xs ++ ys) (length xs + i) ≡ slice_get ys i
get_behind [] ys i = ap (slice_get ys) (let e : 0 + i ≡ i = omega arith in e)
get_behind (x ∷ xs) ys i = ap (slice_get (x ∷ xs ++ ys)) (let e : suc (length xs) + i ≡ suc (length xs + i) = omega arith in e) ∙ get_behind xs ys i

pub length-numbered : {X : Type 0} (n : ℕ) (f : ℕ → X) → length (numbered n f) ≡ n
length-numbered zero f = refl
length-numbered (suc n) f = length-append (numbered n f) (f n ∷ []) ∙ (let e = length-numbered n f in omega arith)

pub get_numbered : {X : Type 0} (n : ℕ) (f : ℕ → X) (i : ℕ) → i < n → slice_get (numbered n f) i ≡ Some (f i)
get_numbered zero f i h = absurd (omega arith)
get_numbered (suc n) f i h =
    let len = length-numbered n f in
    elim (cases_lt i n) [
      | inl below ↦ get_front (numbered n f) (f n ∷ []) i (omega arith) ∙ get_numbered n f i below
      | inr past ↦
          let at : i ≡ length (numbered n f) + 0 = omega arith in
          let last : n ≡ i = omega arith in
          ap (slice_get (numbered n f ++ f n ∷ [])) at ∙ get_behind (numbered n f) (f n ∷ []) 0 ∙ ap (λ k. Some (f k)) last
    ]

pub get_numbered_past : {X : Type 0} (n : ℕ) (f : ℕ → X) (i : ℕ) → n ≤ i → slice_get (numbered n f) i ≡ None
get_numbered_past n f i h = slice_get_past (numbered n f) i (let e = length-numbered n f in omega arith)
