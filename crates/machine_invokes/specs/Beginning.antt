-- Classes that have begun.
use Rattle.std.specs.Prelude.{◌≡◌, ℕ, Bool, true, false, List, slice_index_or}
use Rattle.std.specs.List.{AllByRecursion}
use Rattle.class_heads.specs.Hierarchy.{superclasses}
use Rattle.class_world.specs.Tables.{Known}

-- the class and its superclasses have begun
pub record HaveBegun (k : Known) (begun : List Bool) (class : ℕ) : Type 0 where
  pub all : AllByRecursion (λ (place : ℕ). slice_index_or begun place false ≡ true) (superclasses k.heads class)
