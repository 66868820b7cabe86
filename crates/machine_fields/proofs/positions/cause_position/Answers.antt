use Rattle.std.proofs.Common.{length}
use Rattle.class_machine.specs.ClassFiles.{field_constant}
use Rattle.class_machine.specs.World.{cause_field}
use Rattle.machine_fields.proofs.Walks.{at_class}
use Rattle.machine_fields.proofs.positions.cause_position.Goals as goal

pub returns : goal.returns
returns c distinct =
    at_class c.args.world.now.heads (length c.args.world.now.files) (field_constant c.args.world.now.files) distinct c.args.class.0 cause_field c.place_upward.result c.requires c.place_upward.ensures
