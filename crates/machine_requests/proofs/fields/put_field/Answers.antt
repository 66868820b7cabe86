use Rattle.std.proofs.Common.{Bool, true, length, sym, ◌∙◌, ap, subst}
use Rattle.std.specs.Prelude.{Option, Some, slice_set, slice_get}
use Rattle.class_machine.specs.Effect.{PutField}
use Rattle.machine_values.specs.declared.values.Ref.{Ref}
use Rattle.machine_values.specs.declared.values.Value.{Value}
use Rattle.machine_values.specs.declared.content.Content.TheVariants.{Values}
use Rattle.machine_values.specs.States.{is_known_object}
use Rattle.machine_values.specs.Standing.{held}
use Rattle.machine_values.specs.Things.{Things, changed, values_at}
use Rattle.machine_requests.specs.declared.reply.Reply.TheVariants.{Done, Refuses}
use Rattle.machine_requests.specs.Objects.{fields_at, AreFilled}
use Rattle.machine_requests.specs.Replies.{IsAnswerWhere, object}
use Rattle.machine_requests.proofs.Writing.{Writes, put_done, put_within, none_where, where_some}
use Rattle.machine_requests.proofs.Fills.{stored_filled}
use Rattle.machine_requests.proofs.fields.put_field.Goals as goal

pub returns-then-not-has_field-clause-answer : goal.returns-then-not-has_field-clause-answer
returns-then-not-has_field-clause-answer c others r =
    let things = c.args.heap.now in
    let at = c.in-Some.at in
    let v = c.args.value in
    subst (λ (a : Option Ref). IsAnswerWhere (Writes things a r c.args.instance c.args.index c.args.element) things others (λ s names. PutField r (object s names a) (held s.heads names v)) things others Refuses) (sym c.in-Some.is)
    (subst (λ (b : Bool). IsAnswerWhere (Writes things (Some at) r b c.args.index c.args.element) things others (λ s names. PutField r (object s names (Some at)) (held s.heads names v)) things others Refuses) (sym c.if-not-instance.false)
    (put_within things others r at c.args.index c.args.element v (sym (ap (is_known_object (length things.names)) c.in-Some.is) ∙ c.requires.known)
    (none_where (slice_get (fields_at things at.0) c.args.index) (sym c.has_field.ensures.there ∙ c.if-not-has_field.true))))

pub returns-clause-answer : goal.returns-clause-answer
returns-clause-answer c others r =
    let things = c.args.heap.now in
    let at = c.in-Some.at in
    let v = c.args.value in
    subst (λ (a : Option Ref). IsAnswerWhere (Writes things a r c.args.instance c.args.index c.args.element) things others (λ s names. PutField r (object s names a) (held s.heads names v)) c.store.new.self others Done) (sym c.in-Some.is)
    (subst (λ (b : Bool). IsAnswerWhere (Writes things (Some at) r b c.args.index c.args.element) things others (λ s names. PutField r (object s names (Some at)) (held s.heads names v)) c.store.new.self others Done) (sym c.if-not-instance.false)
    (subst (λ (after : Things). IsAnswerWhere (Writes things (Some at) r true c.args.index c.args.element) things others (λ s names. PutField r (object s names (Some at)) (held s.heads names v)) after others Done)
    (ap (λ (x : Value). changed things at.0 (Values (slice_set (values_at things at.0) c.args.index x))) (sym c.kept_value.ensures) ∙ sym c.store.ensures)
    (put_done things others r at c.args.index c.args.element v (sym (ap (is_known_object (length things.names)) c.in-Some.is) ∙ c.requires.known) c.requires.settled
    (where_some (fields_at things at.0) c.args.index (sym c.has_field.ensures.there ∙ c.if-not-has_field.false)))))

pub returns-clause-filled : goal.returns-clause-filled
returns-clause-filled c s filled =
    let things = c.args.heap.now in
    subst (λ (after : Things). AreFilled after s) (sym c.store.ensures)
    (stored_filled things c.in-Some.at.0 c.args.index c.kept_value.result (c.has_field.ensures.within c.if-not-has_field.false) s filled)
