use Rattle.std.proofs.Common.{◌∙◌, ap, ℕ, List}
use Rattle.std.specs.Prelude.{is_some}
use Rattle.class_heads.specs.Hierarchy.{place_of}
use Rattle.class_machine.specs.World.{value_field, box_class}
use Rattle.machine_rules.proofs.LibraryClasses.{knows_boxes}
use Rattle.machine_rules.proofs.NewWork.{new_written, new_whole, longer_settled}
use Rattle.machine_rules.proofs.BoxWork.{box_made, box_text}
use Rattle.machine_rules.proofs.boxes.box_of.Goals as goal

pub class_there-class-requires : goal.class_there-class-requires
class_there-class-requires c = ap (λ (n : List ℕ). is_some (place_of c.args.world.now.heads n)) c.box_class.ensures ∙ knows_boxes c.args.world.now c.args.boxed c.requires.library

pub write_hidden-requires-clause-settled : goal.write_hidden-requires-clause-settled
write_hidden-requires-clause-settled c = longer_settled c.args.heap.now c.make_object.new.heap c.args.value c.make_object.ensures.names c.requires.value

pub returns-clause-work : goal.returns-clause-work
returns-clause-work c whole =
    let k = c.args.world.now in
    let type = c.args.boxed in
    let class = c.class_there-class.result.0 in
    let named = c.class_there-class.ensures.name ∙ c.box_class.ensures in
    box_made k c.args.heap.now c.write_hidden.new.heap type c.in_ok-at.at c.args.value
    (new_written k c.args.heap.now c.make_object.new.heap c.write_hidden.new.heap class (box_class type) c.in_ok-at.at (value_field type) c.args.value named (box_text type) c.in_ok-at.ensures.made c.in_ok-at.ensures.filled c.make_object.ensures.names
    c.write_hidden.ensures.written c.write_hidden.ensures.names c.requires.value) whole

pub returns-clause-filled : goal.returns-clause-filled
returns-clause-filled c =
    new_whole c.args.world.now c.args.heap.now c.make_object.new.heap c.write_hidden.new.heap c.class_there-class.result.0 (box_class c.args.boxed) (c.class_there-class.ensures.name ∙ c.box_class.ensures) (box_text c.args.boxed) c.in_ok-at.ensures.filled c.write_hidden.ensures.filled
