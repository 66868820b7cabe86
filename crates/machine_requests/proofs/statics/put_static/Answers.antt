use Rattle.std.proofs.Common.{◌<◌, List, Option, Some, length, slice_set, sym, ◌∙◌, ap, subst}
use Rattle.class_machine.specs.Effect.{PutStatic}
use Rattle.machine_values.specs.declared.values.Value.{Value}
use Rattle.machine_values.specs.Standing.{held}
use Rattle.machine_requests.specs.declared.reply.Reply.TheVariants.{Done}
use Rattle.machine_requests.specs.Arrays.{kept_value}
use Rattle.machine_requests.specs.Statics.{IsField, AreApart, with_statics}
use Rattle.machine_requests.specs.Replies.{IsAnswerWhere}
use Rattle.machine_requests.proofs.StaticLaws.{static_written}
use Rattle.machine_requests.proofs.statics.put_static.Goals as goal

pub returns-clause-answer : goal.returns-clause-answer
returns-clause-answer c things others r same settled =
    let n = c.args.field.0 in
    let e = c.args.element in
    let v = c.args.value in
    subst (λ (os : List (Option Value)). IsAnswerWhere (λ s. IsField r n e s × AreApart (length others.statics) s) things others (λ s names. PutStatic r (held s.heads names v)) things (with_statics others os) Done)
    (ap (λ (os : List (Option Value)). slice_set os n (Some (kept_value e v))) same ∙ ap (λ (x : Value). slice_set c.args.statics.now n (Some x)) (sym c.kept_value.ensures) ∙ sym c.set.ensures)
    (static_written things others r n e v (subst (λ (os : List (Option Value)). n < length os) (sym same) c.requires) settled)
