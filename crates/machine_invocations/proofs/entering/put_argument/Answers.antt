use Rattle.std.proofs.Common.{◌≡◌, ap, sym, ◌∙◌, arith}
use Rattle.machine_values.specs.Stacks.{slots_of, width}
use Rattle.machine_invocations.proofs.entering.put_argument.Goals as goal

pub overflow_add-at : goal.overflow_add-at
overflow_add-at c = let two : width c.args.value ≡ 2 = ap slots_of (sym c.is_wide.ensures ∙ c.if-is_wide.true) in omega arith

pub overflow_add-result : goal.overflow_add-result
overflow_add-result c = let two : width c.args.value ≡ 2 = ap slots_of (sym c.is_wide.ensures ∙ c.if-is_wide.true) in omega arith

pub overflow_add-result-else-is_wide : goal.overflow_add-result-else-is_wide
overflow_add-result-else-is_wide c = let one : width c.args.value ≡ 1 = ap slots_of (sym c.is_wide.ensures ∙ c.if-is_wide.false) in omega arith
