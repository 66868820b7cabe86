use Rattle.machine_rules.proofs.HiddenWork.{value_given, value_missing}
use Rattle.machine_rules.proofs.fields.value_at.Goals as goal

pub returns-in-Gives : goal.returns-in-Gives
returns-in-Gives c = value_given c.args.heap.now c.args.at c.args.index c.get_field.result c.in-Gives.value c.get_field.ensures c.in-Gives.is

pub returns-in_default : goal.returns-in_default
returns-in_default c = value_missing c.args.heap.now c.args.at c.args.index c.get_field.result c.get_field.ensures c.in_default.not-Gives
