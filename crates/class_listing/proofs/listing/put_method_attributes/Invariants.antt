use Rattle.std.proofs.Common.{◌≡◌, ◌++◌, take}
use Rattle.std.specs.List.{flat_map}
use Rattle.class_file.specs.declared.types.Attribute.{Attribute}
use Rattle.class_listing.specs.Listing.{method_attribute}
use Rattle.class_listing.proofs.listing.put_method_attributes.Given as goal

abbrev pub invariant-loop-one : goal.invariant-loop-one
invariant-loop-one l = l.listing ≡ l.fn.listing ++ flat_map (λ (a : Attribute). method_attribute l.pool a a.content) (take l.one-index l.attributes)
