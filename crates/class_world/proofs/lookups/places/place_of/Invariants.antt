use Rattle.std.proofs.Common.{◌≡◌, ℕ, ◌-◌, ◌<◌, ◌≤◌, length, get_or}
use Rattle.std.specs.declared.cmp.Ordering.TheVariants.{Less, Greater}
use Rattle.std.specs.Ordering.{nat_cmp}
use Rattle.std.specs.Cmp.Lexicographic.{slice_cmp}
use Rattle.class_heads.specs.Hierarchy.{name_at}
use Rattle.class_world.proofs.lookups.places.place_of.Given as goal

-- the names before low are less, and those from high on are greater
abbrev pub invariant-loop-low : goal.invariant-loop-low
invariant-loop-low l = record {
  order : l.low ≤ l.high;
  within : l.high ≤ length l.names;
  below : (k : ℕ) → k < l.low → slice_cmp nat_cmp (name_at l.heads (get_or l.names k 0)) l.name ≡ Less;
  above : (k : ℕ) → l.high ≤ k → k < length l.names → slice_cmp nat_cmp (name_at l.heads (get_or l.names k 0)) l.name ≡ Greater;
}

abbrev pub decreases-loop-low : goal.decreases-loop-low
decreases-loop-low l = l.high - l.low
