use Rattle.std.proofs.Common.{[], ◌∷◌, ◌++◌, sym, ◌∙◌, ap}
use Rattle.std.proofs.lemmas.List.{append-nil}
use Rattle.class_machine.specs.declared.kinds.Element.{Element}
use Rattle.class_machine.specs.Descriptors.{element_of}
use Rattle.machine_fields.specs.NewObjects.{held_by, asked_by}
use Rattle.machine_fields.proofs.Places.{hidden_none, hidden_one}
use Rattle.machine_fields.proofs.new_objects.push_hidden.Goals as goal

pub returns-in_default : goal.returns-in_default
returns-in_default c =
    let old = held_by c.args.types.now.items in
    sym (ap (λ fields. old ++ asked_by fields) (hidden_none c.args.class.now (sym c.is_throwable.ensures ∙ c.if-is_throwable.false) (sym c.boxed_in.ensures ∙ c.in_default.is)) ∙ append-nil old)

pub returns : goal.returns
returns c =
    let old = held_by c.args.types.now.items in
    c.in_ok-push-3.ensures
    ∙ ap (λ (e : Element). old ++ e ∷ []) (c.element_of.ensures ∙ ap element_of c.spelling.ensures)
    ∙ sym (ap (λ fields. old ++ asked_by fields) (hidden_one c.args.class.now c.in-Some.boxed (sym c.is_throwable.ensures ∙ c.if-is_throwable.false) (sym c.boxed_in.ensures ∙ c.in-Some.is)))
