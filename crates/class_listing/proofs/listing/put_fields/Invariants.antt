use Rattle.std.proofs.Common.{◌≡◌, ◌++◌, take}
use Rattle.std.specs.List.{flat_map}
use Rattle.class_listing.specs.Listing.{field}
use Rattle.class_listing.proofs.listing.put_fields.Given as goal

abbrev pub invariant-loop-member : goal.invariant-loop-member
invariant-loop-member l = l.listing ≡ l.fn.listing ++ flat_map (field l.pool) (take l.member-index l.members)
