use Rattle.machine_rules.proofs.BoxWork.{box_set}
use Rattle.machine_rules.proofs.boxes.set_box.Goals as goal

pub returns-clause-work : goal.returns-clause-work
returns-clause-work c whole = box_set c.args.world.now c.args.heap.now c.write_hidden.new.heap c.args.boxed c.args.at c.args.value c.write_hidden.ensures.written whole
