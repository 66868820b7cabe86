use Rattle.std.proofs.Common.{length, sym, ◌∙◌, ap}
use Rattle.class_file.specs.Pool.{Reference}
use Rattle.machine_fields.proofs.Places.{hidden_none, hidden_one}
use Rattle.machine_fields.proofs.positions.hidden_count.Goals as goal

pub returns-in-Some-clause-hidden : goal.returns-in-Some-clause-hidden
returns-in-Some-clause-hidden c =
    sym (ap (length {A = Reference}) (hidden_one c.args.class.now c.in-Some.field-0 (sym c.is_throwable.ensures ∙ c.if-is_throwable.false) (sym c.boxed_in.ensures ∙ c.in-Some.is)))

pub returns-in-None-clause-hidden : goal.returns-in-None-clause-hidden
returns-in-None-clause-hidden c =
    sym (ap (length {A = Reference}) (hidden_none c.args.class.now (sym c.is_throwable.ensures ∙ c.if-is_throwable.false) (sym c.boxed_in.ensures ∙ c.in-None.is)))
