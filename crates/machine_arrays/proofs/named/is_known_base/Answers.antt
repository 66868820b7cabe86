use Rattle.machine_arrays.proofs.Descriptors.{base_known}
use Rattle.machine_arrays.proofs.named.is_known_base.Goals as goal

pub returns-in-Class : goal.returns-in-Class
returns-in-Class c = base_known c.args.world.now.heads c.args.base.now _ c.class.result c.is_some.result c.in-Class.is c.requires c.class.ensures.place c.is_some.ensures
