use Rattle.std.proofs.Common.{sym, ◌∙◌}
use Rattle.machine_invocations.specs.Selections.{member_named}
use Rattle.machine_invocations.proofs.Upward.{declared_is_method, selects_it, passes_it}
use Rattle.machine_invocations.proofs.selection.selectable_in.Goals as goal

pub declared-requires : goal.declared-requires
declared-requires c = declared_is_method c.args.world.now (member_named c.args.name.now c.args.descriptor.now) c.args.class.0 c.in_ok-method.method.0 c.in_ok-method.ensures.number

pub returns-then-is_selectable : goal.returns-then-is_selectable
returns-then-is_selectable c =
    selects_it c.args.world.now (member_named c.args.name.now c.args.descriptor.now) c.args.class.0 c.in_ok-method.method.0 c.declared.result.class.0 c.declared.result.head.now c.declared.result.method.now c.in_ok-method.ensures.number c.declared.ensures.stands (sym c.is_selectable.ensures ∙ c.if-is_selectable.true)

pub returns-else-is_selectable : goal.returns-else-is_selectable
returns-else-is_selectable c =
    passes_it c.args.world.now (member_named c.args.name.now c.args.descriptor.now) c.args.class.0 c.in_ok-method.method.0 c.declared.result.class.0 c.declared.result.head.now c.declared.result.method.now c.in_ok-method.ensures.number c.declared.ensures.stands (sym c.is_selectable.ensures ∙ c.if-is_selectable.false)
