use Rattle.machine_rules.proofs.Library.{knows_strings}
use Rattle.machine_rules.proofs.classes.string_class.Goals as goal

pub class_there-requires : goal.class_there-requires
class_there-requires c = knows_strings c.args.world.now c.requires
