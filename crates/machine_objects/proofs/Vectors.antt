-- An item of a vector that is put back.
use Rattle.std.specs.Prelude.{◌≡◌, ℕ, zero, suc, ◌≤◌, List, [], ◌∷◌, length, slice_get, slice_set, Some, refl}
use Rattle.std.proofs.Common.{ap}
use Rattle.std.specs.Global.{Vec}
use Rattle.std.specs.Vec.{with_item}
use mathlib.Core.Path.{PathP}
use mathlib.Core.HLevel.{is_prop→PathP}
use native.Mathlib.Nat.{ℕ_set}
use native.Mathlib.Bridge.{le_prop}

pub set_back : {X : Type 0} (xs : List X) (i : ℕ) (a b : X) → slice_get xs i ≡ Some a → slice_set (slice_set xs i b) i a ≡ xs
set_back [] i a b at = refl
set_back (x ∷ xs) zero a b at = let e : a ≡ x = cc in ap (λ y. y ∷ xs) e
set_back (x ∷ xs) (suc i) a b at = ap (λ ys. x ∷ ys) (set_back xs i a b at)

module _ {X : Type 0} (v : Vec X) where
  abbrev Fits : List X → Type 0
  Fits ys = (v.len ≡ length ys) × (v.len ≤ v.cap)

  abbrev holding : (ys : List X) → Fits ys → Vec X
  holding ys ok = record { ptr = v.ptr; len = v.len; cap = v.cap; alloc = v.alloc; items = ys; ok = ok; small = v.small }

  fits_along : (ys zs : List X) (e : ys ≡ zs) (p : Fits ys) (q : Fits zs) → PathP (λ i. Fits (e i)) p q
  fits_along ys zs e p q = is_prop→PathP (λ i. Fits (e i)) (λ i p q j. (ℕ_set _ _ p.0 q.0 j, le_prop p.1 q.1 j)) p q

  holding_along : (ys zs : List X) (e : ys ≡ zs) (p : Fits ys) (q : Fits zs) → holding ys p ≡ holding zs q
  holding_along ys zs e p q = λ i. holding (e i) (fits_along ys zs e p q i)

pub item_back : {X : Type 0} (v : Vec X) (i : ℕ) (a b : X) → slice_get v.items i ≡ Some a → with_item (with_item v i b) i a ≡ v
item_back v i a b at = holding_along v (slice_set (slice_set v.items i b) i a) v.items (set_back v.items i a b at) (with_item (with_item v i b) i a).ok v.ok

set_same : {X : Type 0} (xs : List X) (i : ℕ) (a : X) → slice_get xs i ≡ Some a → slice_set xs i a ≡ xs
set_same [] i a at = refl
set_same (x ∷ xs) zero a at = let e : a ≡ x = cc in ap (λ y. y ∷ xs) e
set_same (x ∷ xs) (suc i) a at = ap (λ ys. x ∷ ys) (set_same xs i a at)

pub item_same : {X : Type 0} (v : Vec X) (i : ℕ) (a : X) → slice_get v.items i ≡ Some a → with_item v i a ≡ v
item_same v i a at = holding_along v (slice_set v.items i a) v.items (set_same v.items i a at) (with_item v i a).ok v.ok
