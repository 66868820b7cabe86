use Rattle.std.proofs.Common.{sym, ◌∙◌}
use Rattle.machine_rules.proofs.PlainNames.{read_name, read_class}
use Rattle.machine_rules.proofs.class_objects.type_named.Goals as goal

pub returns-in-Ok-clause-name : goal.returns-in-Ok-clause-name
returns-in-Ok-clause-name c = read_name c.in-Ok.class c.args.name.now c.in-Ok.ensures.found.1 (sym c.is_array.ensures ∙ c.if-not-is_array.false)

pub returns-in-Ok-clause-class : goal.returns-in-Ok-clause-class
returns-in-Ok-clause-class c plain = read_class c.in-Ok.class c.args.name.now c.in-Ok.ensures.found.0 c.in-Ok.ensures.found.1 (sym c.is_array.ensures ∙ c.if-not-is_array.false)
