use Rattle.std.proofs.Common.{◌∙◌, ap}
use Rattle.class_machine.specs.Descriptors.{result_in}
use Rattle.machine_invokes.proofs.Rooms.{void_has_room, value_has_room}
use Rattle.machine_invokes.proofs.choosing.has_result_room.Goals as goal

pub returns-in-None : goal.returns-in-None
returns-in-None c =
    let place = c.declared-place.result in
    void_has_room c.args.world.now c.args.frame.now c.args.method.0 place.class.0 place.head.now place.method.now c.declared-place.ensures.seen
    (c.in-None.ensures ∙ ap result_in c.as_slice.ensures)

pub returns-in-Some : goal.returns-in-Some
returns-in-Some c =
    let place = c.declared-place.result in
    value_has_room c.args.world.now c.args.frame.now c.args.method.0 place.class.0 place.head.now place.method.now c.declared-place.ensures.seen
    c.in-Some.descriptor.now c.kind_in.result c.room_for.result (c.in-Some.ensures ∙ ap result_in c.as_slice.ensures) c.kind_in.ensures c.room_for.ensures
