-- How a class is found by a name as Java source writes it.
use Rattle.std.specs.Prelude.{◌≡◌, ℕ, ◌≤◌, List, [], ◌∷◌, ◌++◌, map, if◌then◌else◌, ◌==◌, nat_le, ◌&&◌}
use Rattle.std.specs.List.{count_by}

-- how many dots there are
abbrev pub dots : List ℕ → ℕ
dots name = count_by (λ b. b == 46) name

-- the last count dots read as $: a dot from which on at most count dots stand
abbrev pub dollared : ℕ → List ℕ → List ℕ
dollared count [] = []
dollared count (b ∷ bs) = (if b == 46 && nat_le (dots (b ∷ bs)) count then 36 else b) ∷ dollared count bs

-- a class name with its / as dots
abbrev pub dotted : List ℕ → List ℕ
dotted class = map (λ b. if b == 47 then 46 else b) class

-- the package, a dot and the name, or the name alone in the unnamed package
abbrev pub in_package : List ℕ → List ℕ → List ℕ
in_package [] name = name
in_package (b ∷ bs) name = (b ∷ bs) ++ 46 ∷ name

-- the class is the one of that package and name, with the last dots of the name, so many, as $
pub record IsNamed («package» name : List ℕ) (dollars : ℕ) (class : List ℕ) : Type 0 where
  pub enough : dollars ≤ dots name
  pub spelled : dotted class ≡ in_package «package» (dollared dollars name)
