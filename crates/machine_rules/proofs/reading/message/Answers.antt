use Rattle.std.proofs.Common.{sym, ◌∙◌, ap}
use Rattle.std.specs.Option.{option_map}
use Rattle.aj_names.specs.declared.ids.ClassId.{ClassId}
use Rattle.class_machine.specs.World.{message_field}
use Rattle.machine_rules.proofs.ReadFields.{nothing_read, field_read}
use Rattle.machine_rules.proofs.reading.message.Goals as goal

pub returns-in-Some-clause-reads : goal.returns-in-Some-clause-reads
returns-in-Some-clause-reads c =
    field_read c.args.world.now c.args.heap.now c.args.x message_field c.in-Some.class.0 c.message_position.result c.value_read.result c.settled.result c.requires
    (sym (ap (option_map (λ (class : ClassId). class.0)) c.in-Some.is) ∙ c.class_made.ensures.class) c.message_position.ensures c.value_read.ensures.few c.value_read.ensures.value c.settled.ensures.same

pub returns-in-None-clause-reads : goal.returns-in-None-clause-reads
returns-in-None-clause-reads c =
    nothing_read c.args.world.now c.args.heap.now c.args.x message_field c.requires (sym (ap (option_map (λ (class : ClassId). class.0)) c.in-None.is) ∙ c.class_made.ensures.class)
