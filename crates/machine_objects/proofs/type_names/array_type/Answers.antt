use Rattle.std.proofs.Common.{sym, ◌∙◌}
use Rattle.machine_objects.proofs.TypeNames.{array_named, array_is}
use Rattle.machine_objects.proofs.type_names.array_type.Goals as goal

pub returns-then-is_plain_base-clause-named : goal.returns-then-is_plain_base-clause-named
returns-then-is_plain_base-clause-named c = array_named c.in-Ok.named c.args.descriptor.now c.if-named-eq0.false c.in-Ok.ensures.found.1

pub returns-then-is_plain_base-clause-array : goal.returns-then-is_plain_base-clause-array
returns-then-is_plain_base-clause-array c = array_is c.in-Ok.named c.if-named-eq0.false (sym c.is_plain_base.ensures ∙ c.if-is_plain_base.true)
