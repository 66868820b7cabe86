use Rattle.std.proofs.Common.{◌∙◌}
use Rattle.machine_values.specs.Standing.{name_of}
use Rattle.machine_rules.specs.Finishing.{text_of}
use Rattle.machine_rules.proofs.Resumed.{described_is}
use Rattle.machine_rules.proofs.resuming.described.Goals as goal

pub returns : goal.returns
returns c =
    described_is c.new-units.result.items c.put_class.new.out.items c.put_message.new.out.items c.as_slice.result.now (name_of c.args.world.now.heads c.args.heap.now.names c.args.x) (text_of c.args.heap.now c.args.message)
    c.new-units.ensures.items c.in_ok-put_class.ensures c.in_ok-put_message.ensures (c.as_slice.ensures.value ∙ c.in_ok-class.ensures)
