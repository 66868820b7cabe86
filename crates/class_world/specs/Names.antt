-- The places of classes in the order of their names.
use Rattle.std.specs.Prelude.{◌≡◌, ℕ, ◌<◌, List, length, slice_index}
use Rattle.std.specs.List.{All, Contains}
use Rattle.std.specs.declared.cmp.Ordering.TheVariants.{Less}
use Rattle.std.specs.Ordering.{nat_cmp}
use Rattle.std.specs.Cmp.Lexicographic.{slice_cmp}
use Rattle.class_heads.specs.declared.types.ClassHead.{ClassHead}
use Rattle.class_heads.specs.Hierarchy.{name_at}

-- each place is listed, by names that rise byte by byte
pub record IsNameOrder (heads : List ClassHead) (names : List ℕ) : Type 0 where
  pub within : All (λ place. place < length heads) names
  pub rising : (i j : ℕ) → i < j → j < length names → slice_cmp nat_cmp (name_at heads (slice_index names i)) (name_at heads (slice_index names j)) ≡ Less
  pub complete : (place : ℕ) → place < length heads → Contains names place
