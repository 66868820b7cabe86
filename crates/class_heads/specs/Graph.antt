-- Paths and walks along steps from place to place, as from a class to its supertypes. Places are numbers.
use Rattle.std.specs.Prelude.{◌≡◌, ℕ, zero, suc, ◌==◌, not, List, [], ◌∷◌}
use Rattle.std.specs.List.{flat_map, filter, Contains}

-- the places, without those that stand before
abbrev pub each_once : List ℕ → List ℕ
each_once [] = []
each_once (place ∷ places) = place ∷ filter (λ other. not (place == other)) (each_once places)

module _ (steps : ℕ → List ℕ) where
  -- so many steps lead from one place to the other
  abbrev pub PathOf : ℕ → ℕ → ℕ → Type 0
  PathOf zero low high = low ≡ high
  PathOf (suc count) low high = (next : ℕ) × Contains (steps low) next × PathOf count next high

  abbrev pub Path : ℕ → ℕ → Type 0
  Path low high = (count : ℕ) × PathOf count low high

  -- at least one step leads from the place back to it
  abbrev pub LiesOnCircle : ℕ → Type 0
  LiesOnCircle place = (count : ℕ) × PathOf (suc count) place place

  -- the places on the way from a place, depth first, in at most so many places one after the other
  abbrev pub walk : ℕ → ℕ → List ℕ
  walk zero place = []
  walk (suc most) place = place ∷ flat_map (walk most) (steps place)
