use Rattle.class_world.proofs.NameOrder.{order_of_index}
use Rattle.class_world.proofs.lookups.in_order.in_order.Goals as goal

pub returns : goal.returns
returns c = λ heads index. order_of_index heads c.args.names.now c.in_ok-places.places.items c.in_ok-places.ensures.ordered c.in_ok-places.ensures.places index
