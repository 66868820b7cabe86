use Rattle.machine_rules.proofs.ClassWork.{class_object_given, placed_longer, placed_filled}
use Rattle.machine_rules.proofs.class_objects.get_class.Goals as goal

pub returns-clause-work : goal.returns-clause-work
returns-clause-work c = class_object_given c.args.world.now c.args.heap.now c.class_object.new.self c.args.at c.in_ok-object.object c.in_ok-class.class c.in_ok-object.ensures.ok c.in_ok-class.ensures.name c.in_ok-class.ensures.class

pub returns-clause-names : goal.returns-clause-names
returns-clause-names c = placed_longer c.args.heap.now c.class_object.new.self c.in_ok-object.object c.in_ok-class.class c.in_ok-object.ensures.ok

pub returns-clause-filled : goal.returns-clause-filled
returns-clause-filled c = placed_filled c.args.heap.now c.class_object.new.self c.in_ok-object.object c.in_ok-class.class c.in_ok-object.ensures.ok
