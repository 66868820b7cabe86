use Rattle.machine_rules.specs.Fields.{field_named}
use Rattle.machine_rules.proofs.HiddenWork.{hidden_given}
use Rattle.machine_rules.proofs.fields.give_hidden.Goals as goal

pub returns : goal.returns
returns c = hidden_given c.args.world.now c.args.heap.now c.args.at (field_named c.args.field) c.read_hidden.result c.read_hidden.ensures
