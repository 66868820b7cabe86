use Rattle.class_world.specs.Tables.{indexed}
use Rattle.class_world.proofs.Named.{filter_map-one}
use Rattle.class_world.proofs.supers.push_places.Goals as goal

pub loop-name-preserved : goal.loop-name-preserved
loop-name-preserved c =
    filter_map-one (indexed c.args.names.now) c.args.wanted.now c.loop-name.name-index c.name-item.result c.args.places.now.items _ _ c.loop-name-test.true c.name-item.is c.loop-name.invariant c.in_ok-push_place.ensures
