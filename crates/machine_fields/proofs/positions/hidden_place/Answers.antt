use Rattle.std.proofs.Common.{List, sym, ◌∙◌, ap, true, false}
use Rattle.class_file.specs.Pool.{Reference}
use Rattle.class_machine.specs.Classes.{reference}
use Rattle.machine_requests.specs.Objects.{field_place}
use Rattle.machine_fields.proofs.Places.{hidden_none, box_placed}
use Rattle.machine_fields.proofs.positions.hidden_place.Goals as goal

pub returns-in_err-boxed-clause-hidden : goal.returns-in_err-boxed-clause-hidden
returns-in_err-boxed-clause-hidden c =
    c.from_residual.ensures
    ∙ sym (ap (λ (l : List Reference). field_place l (reference c.args.class.now c.args.name.now c.args.descriptor.now))
    (hidden_none c.args.class.now (sym c.is_throwable.ensures ∙ c.if-is_throwable.false) (sym c.boxed_in.ensures ∙ c.in_err-boxed.was)))

pub returns-then-is_value-clause-hidden : goal.returns-then-is_value-clause-hidden
returns-then-is_value-clause-hidden c =
    sym (box_placed c.args.class.now c.args.name.now c.args.descriptor.now c.in_ok-boxed.boxed true (sym c.is_throwable.ensures ∙ c.if-is_throwable.false) (sym c.boxed_in.ensures ∙ c.in_ok-boxed.was) (sym c.is_value.ensures ∙ c.if-is_value.true))

pub returns-else-is_value-clause-hidden : goal.returns-else-is_value-clause-hidden
returns-else-is_value-clause-hidden c =
    sym (box_placed c.args.class.now c.args.name.now c.args.descriptor.now c.in_ok-boxed.boxed false (sym c.is_throwable.ensures ∙ c.if-is_throwable.false) (sym c.boxed_in.ensures ∙ c.in_ok-boxed.was) (sym c.is_value.ensures ∙ c.if-is_value.false))
