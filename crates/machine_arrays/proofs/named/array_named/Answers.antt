use Rattle.std.proofs.Common.{sym, ◌∙◌}
use Rattle.machine_arrays.proofs.Descriptors.{known_base}
use Rattle.machine_arrays.proofs.named.array_named.Goals as goal

pub returns-then-is_known_base-clause-known : goal.returns-then-is_known_base-clause-known
returns-then-is_known_base-clause-known c =
    sym c.if-is_known_base.true ∙ c.is_known_base.ensures
    ∙ known_base c.args.world.now c.args.descriptor.now c.requires c.in_ok-class.class (sym c.is_field_descriptor.ensures ∙ c.if-not-is_field_descriptor.false) c.in_ok-class.ensures.spelled

pub returns-else-is_known_base-clause-known : goal.returns-else-is_known_base-clause-known
returns-else-is_known_base-clause-known c =
    sym c.if-is_known_base.false ∙ c.is_known_base.ensures
    ∙ known_base c.args.world.now c.args.descriptor.now c.requires c.in_ok-class.class (sym c.is_field_descriptor.ensures ∙ c.if-not-is_field_descriptor.false) c.in_ok-class.ensures.spelled
