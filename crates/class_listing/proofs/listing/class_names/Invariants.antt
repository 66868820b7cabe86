use Rattle.std.proofs.Common.{◌≡◌, take}
use Rattle.std.specs.Prelude.{map}
use Rattle.class_listing.specs.Names.{class_shown}
use Rattle.class_listing.proofs.listing.class_names.Given as goal

abbrev pub invariant-loop-index : goal.invariant-loop-index
invariant-loop-index l = l.names ≡ map (class_shown l.pool) (take l.index-index l.indices)
