-- An array of nulls gets its elements, one after the other.
use Rattle.std.specs.Prelude.{◌≡◌, ℕ, zero, suc, ◌+◌, ◌<◌, ◌≤◌, List, [], ◌∷◌, ◌++◌, replicate, take, drop, length, slice_get, slice_set, Option, Some, None, get_or, refl}
use Rattle.std.proofs.Common.{sym, ◌∙◌, ap, arith}
use Rattle.std.proofs.lemmas.List.{length-set}
use Rattle.machine_values.specs.declared.values.Value.{Value}
use Rattle.machine_values.specs.declared.values.Value.TheVariants.{Null}
use Rattle.machine_values.specs.declared.content.Content.{Content}
use Rattle.machine_values.specs.declared.content.Content.TheVariants.{Values}
use Rattle.machine_values.specs.Things.{Things, changed, values_at, values_of}

-- those so far, and null for the rest
abbrev pub so_far : List Value → ℕ → List Value
so_far vs i = take i vs ++ replicate (length (drop i vs)) Null

nulls : (n : ℕ) → length (replicate n Null) ≡ n
nulls zero = refl
nulls (suc n) = ap suc (nulls n)

pub as_many : (vs : List Value) (i : ℕ) → i ≤ length vs → length (so_far vs i) ≡ length vs
as_many vs zero h = nulls (length vs)
as_many [] (suc i) h = absurd (omega arith)
as_many (v ∷ vs) (suc i) h = ap suc (as_many vs i (omega arith))

put_next : (vs : List Value) (i : ℕ) (v d : Value) → i < length vs → v ≡ get_or vs i d → slice_set (so_far vs i) i v ≡ so_far vs (suc i)
put_next [] i v d h e = absurd (omega arith)
put_next (x ∷ vs) zero v d h e = ap (λ y. y ∷ replicate (length vs) Null) e
put_next (x ∷ vs) (suc i) v d h e = ap (λ l. x ∷ l) (put_next vs i v d (omega arith) e)

pub all_put : (vs : List Value) → so_far vs (length vs) ≡ vs
all_put [] = refl
all_put (v ∷ vs) = ap (λ l. v ∷ l) (all_put vs)

-- ---- in a heap

set_there : {X : Type 0} (xs : List X) (at : ℕ) (x y : X) → slice_get xs at ≡ Some x → slice_get (slice_set xs at y) at ≡ Some y
set_there [] at x y h = absurd cc
set_there (z ∷ xs) zero x y h = refl
set_there (z ∷ xs) (suc at) x y h = set_there xs at x y h

set_same : {X : Type 0} (xs : List X) (at : ℕ) (x : X) → slice_get xs at ≡ Some x → slice_set xs at x ≡ xs
set_same [] at x h = refl
set_same (z ∷ xs) zero x h = let e : Some z ≡ Some x = h in ap (λ y. y ∷ xs) cc
set_same (z ∷ xs) (suc at) x h = ap (λ l. z ∷ l) (set_same xs at x h)

set_twice : {X : Type 0} (xs : List X) (at : ℕ) (x y : X) → slice_set (slice_set xs at x) at y ≡ slice_set xs at y
set_twice [] at x y = refl
set_twice (z ∷ xs) zero x y = refl
set_twice (z ∷ xs) (suc at) x y = ap (λ l. z ∷ l) (set_twice xs at x y)

pub unchanged : (things : Things) (at : ℕ) (c : Content) → slice_get things.contents at ≡ Some c → things ≡ changed things at c
unchanged things at c h = ap (λ (cs : List Content). record { names = things.names; contents = cs }) (sym (set_same things.contents at c h))

pub values_put : (things : Things) (at : ℕ) (old : Content) (vs : List Value) → slice_get things.contents at ≡ Some old → values_at (changed things at (Values vs)) at ≡ vs
values_put things at old vs h = ap values_of (set_there things.contents at old (Values vs) h)

pub put_again : (things : Things) (at : ℕ) (old : Content) (vs : List Value) (i : ℕ) (v d : Value) → slice_get things.contents at ≡ Some old → i < length vs → v ≡ get_or vs i d
    → changed (changed things at (Values (so_far vs i))) at (Values (slice_set (values_at (changed things at (Values (so_far vs i))) at) i v)) ≡ changed things at (Values (so_far vs (i + 1)))
put_again things at old vs i v d there within here =
    ap (λ (cs : List Content). record { names = things.names; contents = cs })
    (set_twice things.contents at (Values (so_far vs i)) (Values (slice_set (values_at (changed things at (Values (so_far vs i))) at) i v))
    ∙ ap (λ (l : List Value). slice_set things.contents at (Values (slice_set l i v))) (values_put things at old (so_far vs i) there)
    ∙ ap (λ (l : List Value). slice_set things.contents at (Values l)) (put_next vs i v d within here ∙ ap (so_far vs) (let e : suc i ≡ i + 1 = omega arith in e)))

-- the array has so many elements
pub nulls_there : (things : Things) (at : ℕ) (vs : List Value) → slice_get things.contents at ≡ Some (Values (replicate (length vs) Null)) → length (values_at things at) ≡ length vs
nulls_there things at vs h = ap (λ (o : Option Content). length (values_of o)) h ∙ nulls (length vs)

-- a write leaves as many
pub as_many_still : (things : Things) (at i : ℕ) (v : Value) → i < length (values_at things at) → length (values_at (changed things at (Values (slice_set (values_at things at) i v))) at) ≡ length (values_at things at)
as_many_still things at i v within = by (slice_get things.contents at) refl where
  by : (o : Option Content) → slice_get things.contents at ≡ o → length (values_at (changed things at (Values (slice_set (values_at things at) i v))) at) ≡ length (values_at things at)
  by None e = absurd (let none = ap (λ (p : Option Content). length (values_of p)) e in omega arith)
  by (Some c) e = ap length (values_put things at c (slice_set (values_at things at) i v) e) ∙ length-set (values_at things at) i v
