use Rattle.machine_objects.proofs.Places.{class_place, no_place}
use Rattle.machine_objects.proofs.reading.place_in.Goals as goal

pub returns-in-Some : goal.returns-in-Some
returns-in-Some c =
    class_place c.args.world.now c.args.heap.now c.args.at c.requires.known c.args.found.class.0 c.args.found.position c.in-Some.class.0 c.field_position.result c.in-Some.ensures.place c.field_position.ensures

pub returns-in-None : goal.returns-in-None
returns-in-None c = no_place c.args.world.now c.args.heap.now c.args.at c.requires.known c.args.found.class.0 c.args.found.position c.in-None.ensures.place
