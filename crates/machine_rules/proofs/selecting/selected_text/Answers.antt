use Rattle.machine_rules.proofs.Library.{knows_objects}
use Rattle.machine_rules.proofs.Declared.{object_declares}
use Rattle.machine_rules.proofs.selecting.selected_text.Goals as goal

pub class_there-object-requires : goal.class_there-object-requires
class_there-object-requires c = knows_objects c.args.world.now c.requires

pub returns : goal.returns
returns c distinct = c.select_from.ensures distinct (object_declares c.args.world.now c.class_there-object.result.0 c.requires distinct c.class_there-object.ensures.place)
