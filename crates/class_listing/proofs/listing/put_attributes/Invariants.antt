use Rattle.std.proofs.Common.{◌≡◌, ◌++◌, take}
use Rattle.std.specs.Prelude.{map}
use Rattle.class_listing.specs.Listing.{attribute}
use Rattle.class_listing.proofs.listing.put_attributes.Given as goal

abbrev pub invariant-loop-one : goal.invariant-loop-one
invariant-loop-one l = l.listing ≡ l.fn.listing ++ map (attribute l.pool) (take l.one-index l.attributes)
