use Rattle.std.proofs.Common.{arith}
use Rattle.class_listing.proofs.Lists.{lengths_next}
use Rattle.class_listing.proofs.lengths.attributes_length.Goals as goal

pub loop-attribute-preserved : goal.loop-attribute-preserved
loop-attribute-preserved c =
    lengths_next c.args.attributes.now c.loop-attribute.attribute-index c.attribute-item.result _ _ _ (omega arith) c.attribute-item.is c.loop-attribute.invariant c.in_ok-attribute_length.ensures c.in_ok-length.ensures
