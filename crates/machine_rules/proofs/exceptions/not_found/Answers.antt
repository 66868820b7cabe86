use Rattle.std.proofs.Common.{◌∙◌, ap, refl}
use Rattle.class_machine.specs.World.{is_text_class, message_field}
use Rattle.machine_rules.proofs.LibraryClasses.{knows_missing}
use Rattle.machine_rules.proofs.NewWork.{new_written, new_whole, longer_settled}
use Rattle.machine_rules.proofs.ExceptionWork.{missing_thrown, last_grows}
use Rattle.machine_rules.proofs.exceptions.not_found.Goals as goal

pub class_there-class-requires : goal.class_there-class-requires
class_there-class-requires c = knows_missing c.args.world.now c.requires.library

pub make_exception-requires-clause-plain : goal.make_exception-requires-clause-plain
make_exception-requires-clause-plain c = ap is_text_class c.class_there-class.ensures.name ∙ refl

pub write_reference-requires-clause-settled : goal.write_reference-requires-clause-settled
write_reference-requires-clause-settled c = longer_settled c.args.heap.now c.make_exception.new.heap c.args.name c.make_exception.ensures.names c.requires.name

pub returns-clause-work : goal.returns-clause-work
returns-clause-work c whole =
    let k = c.args.world.now in
    let class = c.class_there-class.result.0 in
    missing_thrown k c.args.heap.now c.write_reference.new.heap c.in_ok-at.at c.args.name
    (new_written k c.args.heap.now c.make_exception.new.heap c.write_reference.new.heap class _ c.in_ok-at.at message_field c.args.name c.class_there-class.ensures.name refl c.in_ok-at.ensures.made c.in_ok-at.ensures.filled c.make_exception.ensures.names
    (λ filled. c.write_reference.ensures.written) c.write_reference.ensures.names c.requires.name) whole

pub returns-clause-filled : goal.returns-clause-filled
returns-clause-filled c =
    new_whole c.args.world.now c.args.heap.now c.make_exception.new.heap c.write_reference.new.heap c.class_there-class.result.0 _ c.class_there-class.ensures.name refl c.in_ok-at.ensures.filled c.write_reference.ensures.filled

pub returns-clause-changes : goal.returns-clause-changes
returns-clause-changes c =
    last_grows c.args.heap.now c.make_exception.new.heap c.write_reference.new.heap c.in_ok-at.at c.in_ok-at.ensures.last c.make_exception.ensures.names c.write_reference.ensures.names c.write_reference.ensures.before
