use Rattle.std.proofs.Common.{sym, ap, ◌∙◌, subst}
use Rattle.std.specs.Option.{option_copied}
use Rattle.machine_statics.specs.Returns.{IsOnTop}
use Rattle.machine_statics.proofs.OnTop.{lacks_any, has_on_top, lacks_on_top}
use Rattle.machine_statics.proofs.returning.value_on_top.Goals as goal

pub returns-in_err-value : goal.returns-in_err-value
returns-in_err-value c =
    subst (IsOnTop c.args.frame.now c.args.kind) (sym c.from_residual.ensures)
    (lacks_any c.args.frame.now c.as_slice.result.now c.args.kind c.as_slice.ensures (sym (ap option_copied c.in_err-value.was) ∙ c.last.ensures.value))

pub returns-then-is_of : goal.returns-then-is_of
returns-then-is_of c = has_on_top c.args.frame.now c.as_slice.result.now c.args.kind c.as_slice.ensures c.in_ok-value.value.now c.in_ok-value.ensures.value (sym c.is_of.ensures ∙ c.if-is_of.true)

pub returns-else-is_of : goal.returns-else-is_of
returns-else-is_of c = lacks_on_top c.args.frame.now c.as_slice.result.now c.args.kind c.as_slice.ensures c.in_ok-value.value.now c.in_ok-value.ensures.value (sym c.is_of.ensures ∙ c.if-is_of.false)
