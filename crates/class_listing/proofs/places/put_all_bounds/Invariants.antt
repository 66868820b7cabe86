use Rattle.std.proofs.Common.{◌≡◌, ◌++◌, take}
use Rattle.std.specs.List.{flat_map}
use Rattle.class_listing.specs.Steps.{bounds_of}
use Rattle.class_listing.proofs.places.put_all_bounds.Given as goal

abbrev pub invariant-loop-entry : goal.invariant-loop-entry
invariant-loop-entry l = l.places.items ≡ l.fn.places.items ++ flat_map bounds_of (take l.entry-index l.entries)
