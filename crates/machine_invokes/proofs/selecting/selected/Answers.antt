use Rattle.machine_invokes.proofs.Invoked.{special_selects, object_selects, special_method, object_method}
use Rattle.machine_invokes.proofs.selecting.selected.Goals as goal

pub returns-then-special-clause-selected : goal.returns-then-special-clause-selected
returns-then-special-clause-selected c =
    special_selects c.args.world.now c.args.heap.now c.args.current.0 c.args.at c.args.found.0 c.select_special.result c.args.special c.declaring_class.result.0 c.if-special.true c.requires.current c.declaring_class.ensures.class c.select_special.ensures

pub returns-then-special-clause-method : goal.returns-then-special-clause-method
returns-then-special-clause-method c = special_method c.args.world.now c.declaring_class.result.0 c.args.found.0 c.select_special.result c.requires.runnable c.requires.found c.select_special.ensures

pub returns-clause-selected : goal.returns-clause-selected
returns-clause-selected c =
    object_selects c.args.world.now c.args.heap.now c.args.current.0 c.args.at c.args.found.0 c.select.result c.args.special c.class_of_object.result c.if-special.false c.class_of_object.ensures.place c.select.ensures

pub returns-clause-method : goal.returns-clause-method
returns-clause-method c = object_method c.args.world.now c.class_of_object.result c.args.found.0 c.select.result c.requires.runnable c.requires.found c.class_of_object.ensures.within c.select.ensures
