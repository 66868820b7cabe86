use Rattle.std.proofs.Common.{Bool, true, length, sym, ◌∙◌, ap, subst}
use Rattle.std.specs.Prelude.{Option, Some}
use Rattle.class_machine.specs.Effect.{GetField}
use Rattle.machine_values.specs.declared.values.Ref.{Ref}
use Rattle.machine_values.specs.States.{is_known_object}
use Rattle.machine_requests.specs.declared.reply.Reply.{Reply}
use Rattle.machine_requests.specs.declared.reply.Reply.TheVariants.{Refuses}
use Rattle.machine_requests.specs.Objects.{get_reply, HasField}
use Rattle.machine_requests.specs.Replies.{IsAnswerWhere, object}
use Rattle.machine_requests.proofs.Reading.{get_answer, get_refused}
use Rattle.machine_requests.proofs.fields.get_field.Goals as goal

pub returns-then-not-instance : goal.returns-then-not-instance
returns-then-not-instance c others r =
    let things = c.args.heap.now in
    let at = c.in-Some.at in
    subst (λ (a : Option Ref). IsAnswerWhere (HasField things a r c.args.instance c.args.index) things others (λ s names. GetField r (object s names a)) things others Refuses) (sym c.in-Some.is)
    (subst (λ (b : Bool). IsAnswerWhere (HasField things (Some at) r b c.args.index) things others (λ s names. GetField r (object s names (Some at))) things others Refuses) (sym c.if-not-instance.true)
    (get_refused things others r at c.args.index))

pub returns : goal.returns
returns c others r =
    let things = c.args.heap.now in
    let at = c.in-Some.at in
    subst (λ (a : Option Ref). IsAnswerWhere (HasField things a r c.args.instance c.args.index) things others (λ s names. GetField r (object s names a)) things others c.read.result) (sym c.in-Some.is)
    (subst (λ (b : Bool). IsAnswerWhere (HasField things (Some at) r b c.args.index) things others (λ s names. GetField r (object s names (Some at))) things others c.read.result) (sym c.if-not-instance.false)
    (subst (λ (reply : Reply). IsAnswerWhere (HasField things (Some at) r true c.args.index) things others (λ s names. GetField r (object s names (Some at))) things others reply)
    (ap get_reply (sym c.field_at.ensures) ∙ sym c.read.ensures)
    (get_answer things others r at c.args.index (sym (ap (is_known_object (length things.names)) c.in-Some.is) ∙ c.requires))))
