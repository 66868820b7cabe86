use Rattle.std.proofs.Common.{sym, arith}
use Rattle.machine_rules.specs.Fields.{field_named}
use Rattle.machine_rules.proofs.HiddenWork.{written_elsewhere, written_nowhere, written_there}
use Rattle.machine_rules.proofs.fields.write_hidden.Goals as goal

pub returns-in_default-clause-written : goal.returns-in_default-clause-written
returns-in_default-clause-written c whole =
    written_elsewhere c.args.world.now c.args.heap.now c.args.at (field_named c.args.field) c.args.value c.requires.known (sym c.in_default.ensures.class)

pub returns-in_default-position_of-clause-written : goal.returns-in_default-position_of-clause-written
returns-in_default-position_of-clause-written c whole =
    written_nowhere c.args.world.now c.args.heap.now c.args.at (field_named c.args.field) c.args.value c.requires.known c.in-Some.class.0 (sym c.in-Some.ensures.class) c.in_default-position_of.ensures (omega (arith, c.len-count.ensures, c.len-count.type_inv))

pub returns-in-Some-position_of-clause-written : goal.returns-in-Some-position_of-clause-written
returns-in-Some-position_of-clause-written c =
    written_there c.args.world.now c.args.heap.now c.put_field-reply.new.heap c.args.at (field_named c.args.field) c.in-Some.class.0 c.in-Some-position_of.index c.element_of.result c.args.value c.put_field-reply.result
    (sym c.in-Some.ensures.class) c.in-Some-position_of.ensures c.element_of.ensures c.put_field-reply.ensures.answer
