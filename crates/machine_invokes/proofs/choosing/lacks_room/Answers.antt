use Rattle.machine_invokes.proofs.Rooms.{frameless_lacks, framed_lacks}
use Rattle.machine_invokes.proofs.choosing.lacks_room.Goals as goal

pub returns-then-is_frameless : goal.returns-then-is_frameless
returns-then-is_frameless c = frameless_lacks c.args.world.now c.args.frame.now c.args.method.0 c.is_frameless.result c.has_result_room.result c.if-is_frameless.true c.is_frameless.ensures c.has_result_room.ensures

pub returns : goal.returns
returns c = framed_lacks c.args.world.now c.args.frame.now c.args.method.0 c.is_frameless.result c.if-is_frameless.false c.is_frameless.ensures
