use Rattle.std.proofs.Common.{◌≡◌, ◌++◌, take}
use Rattle.std.specs.Prelude.{map}
use Rattle.class_listing.specs.Listing.{code_attribute}
use Rattle.class_listing.proofs.body.put_code_attributes.Given as goal

abbrev pub invariant-loop-attribute : goal.invariant-loop-attribute
invariant-loop-attribute l = l.listing ≡ l.fn.listing ++ map (code_attribute l.pool) (take l.attribute-index l.attributes)
