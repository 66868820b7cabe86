use Rattle.machine_rules.proofs.BoxWork.{hash_given}
use Rattle.machine_rules.proofs.boxes.box_hash.Goals as goal

pub returns : goal.returns
returns c = hash_given c.args.world.now c.args.heap.now c.args.boxed c.args.at c.read_hidden-value.result c.hash_value.result c.read_hidden-value.ensures c.hash_value.ensures
