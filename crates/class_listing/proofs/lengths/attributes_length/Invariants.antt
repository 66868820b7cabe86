use Rattle.std.proofs.Common.{◌≡◌, take}
use Rattle.class_listing.specs.Lengths as rule
use Rattle.class_listing.proofs.lengths.attributes_length.Given as goal

abbrev pub invariant-loop-attribute : goal.invariant-loop-attribute
invariant-loop-attribute l = l.length ≡ rule.attributes_length (take l.attribute-index l.attributes)
