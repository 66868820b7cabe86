use Rattle.std.proofs.Common.{length, sym, ◌∙◌, ap, subst, arith}
use Rattle.std.specs.Prelude.{Option, Some}
use Rattle.std.specs.Option.{option_copied}
use Rattle.class_machine.specs.Effect.{ArrayLength}
use Rattle.machine_values.specs.declared.values.Ref.{Ref}
use Rattle.machine_values.specs.States.{is_known_object}
use Rattle.machine_requests.specs.declared.reply.Reply.TheVariants.{Gives, Refuses}
use Rattle.machine_requests.specs.Replies.{IsAnswer, object}
use Rattle.machine_requests.proofs.ArrayLaws.{length_refused, length_given}
use Rattle.machine_requests.proofs.arrays.array_length.Goals as goal

pub returns-in-Some-array_type : goal.returns-in-Some-array_type
returns-in-Some-array_type c others =
    let things = c.args.heap.now in
    subst (λ (a : Option Ref). IsAnswer things others (λ s names. ArrayLength (object s names a)) things others (Gives c.count_value.result)) (sym c.in-Some.is)
    (subst (λ v. IsAnswer things others (λ s names. ArrayLength (object s names (Some c.in-Some.at))) things others (Gives v)) (sym c.count_value.ensures)
    (length_given things others c.in-Some.at c.in-Some-array_type.field-0.now c.len.result (sym (ap (is_known_object (length things.names)) c.in-Some.is) ∙ c.requires)
    (sym c.array_type.ensures ∙ ap option_copied c.in-Some-array_type.is) c.len.ensures (omega arith)))

pub returns-in-None : goal.returns-in-None
returns-in-None c others =
    let things = c.args.heap.now in
    subst (λ (a : Option Ref). IsAnswer things others (λ s names. ArrayLength (object s names a)) things others Refuses) (sym c.in-Some.is)
    (length_refused things others c.in-Some.at (sym (ap (is_known_object (length things.names)) c.in-Some.is) ∙ c.requires) (sym c.array_type.ensures ∙ ap option_copied c.in-None.is))
