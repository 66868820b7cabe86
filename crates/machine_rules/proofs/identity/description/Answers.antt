use Rattle.std.proofs.Common.{◌∙◌}
use Rattle.class_machine.specs.Values.{class_of, number_of}
use Rattle.machine_values.specs.Standing.{name_of}
use Rattle.machine_rules.proofs.IdentityWork.{description_is}
use Rattle.machine_rules.proofs.identity.description.Goals as goal

pub returns : goal.returns
returns c =
    let name = name_of c.args.world.now.heads c.args.heap.now.names c.args.at in
    description_is c.new-units.result.items c.put_class.new.out.items c.push.new.self.items c.put_hexadecimal.new.out.items c.as_slice.result.now (class_of name) (number_of name) c.number_of.result
    c.new-units.ensures.items c.in_ok-put_class.ensures c.in_ok-push.ensures.items c.in_ok-put_hexadecimal.ensures (c.as_slice.ensures.value ∙ c.in_ok-class.ensures) (c.number_of.ensures c.args.world.now.heads)
