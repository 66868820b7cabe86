use Rattle.std.proofs.Common.{sym, arith}
use Rattle.machine_rules.specs.Fields.{field_named}
use Rattle.machine_rules.proofs.HiddenWork.{reads_elsewhere, reads_there, reads_nowhere}
use Rattle.machine_rules.proofs.fields.read_hidden.Goals as goal

pub returns-in_default : goal.returns-in_default
returns-in_default c =
    reads_elsewhere c.args.world.now c.args.heap.now c.args.at (field_named c.args.field) c.requires (sym c.in_default.ensures.class)

pub returns-in-Some-position_of : goal.returns-in-Some-position_of
returns-in-Some-position_of c =
    reads_there c.args.world.now c.args.heap.now c.args.at (field_named c.args.field) c.in-Some.class.0 c.in-Some-position_of.index c.value_at.result
    (sym c.in-Some.ensures.class) c.in-Some-position_of.ensures c.value_at.ensures

pub returns-in-None : goal.returns-in-None
returns-in-None c =
    reads_nowhere c.args.world.now c.args.heap.now c.args.at (field_named c.args.field) c.in-Some.class.0 c.requires
    (sym c.in-Some.ensures.class) c.in-None.ensures (omega (arith, c.len-count.ensures, c.len-count.type_inv))
