use Rattle.machine_rules.proofs.BoxWork.{same_box_given}
use Rattle.machine_rules.proofs.boxes.same_box.Goals as goal

pub returns : goal.returns
returns c = same_box_given c.args.world.now c.args.heap.now c.args.boxed c.args.at c.args.other c.holds_same.result c.truth.result c.holds_same.ensures c.truth.ensures
