use Rattle.std.proofs.Common.{◌≡◌, length}
use Rattle.class_heads.specs.Hierarchy.{is_type_below, type_of_descriptor}
use Rattle.class_world.proofs.lookups.subtypes.is_element_below.Given as goal

abbrev pub invariant-loop-below : goal.invariant-loop-below
invariant-loop-below l = is_type_below l.heads (type_of_descriptor l.below) (type_of_descriptor l.above) ≡ is_type_below l.heads (type_of_descriptor l.low) (type_of_descriptor l.high)

abbrev pub decreases-loop-below : goal.decreases-loop-below
decreases-loop-below l = length l.below
