use Rattle.machine_rules.proofs.Library.{knows_throwables}
use Rattle.machine_rules.proofs.Declared.{throwable_declares}
use Rattle.machine_rules.proofs.selecting.selected_message.Goals as goal

pub class_there-throwable-requires : goal.class_there-throwable-requires
class_there-throwable-requires c = knows_throwables c.args.world.now c.requires

pub returns : goal.returns
returns c distinct = c.select_from.ensures distinct (throwable_declares c.args.world.now c.class_there-throwable.result.0 c.requires distinct c.class_there-throwable.ensures.place)
