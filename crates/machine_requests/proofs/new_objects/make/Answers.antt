use Rattle.std.proofs.Common.{ℕ, Bool, true, false, [], sym, ◌∙◌, ap, subst}
use Rattle.std.proofs.lemmas.Result.{IfOk-weaker}
use Rattle.machine_values.specs.declared.names.Maker.TheVariants.{Class}
use Rattle.machine_values.specs.Things.{Things, with_made}
use Rattle.machine_requests.specs.Objects.{IsClass, Makes, StaysFilled, new_content}
use Rattle.machine_requests.proofs.Fills.{text_filled, fields_filled}
use Rattle.machine_requests.proofs.Making.{text_made, object_made}
use Rattle.machine_requests.proofs.new_objects.make.Goals as goal

pub returns-then-text-clause-ok : goal.returns-then-text-clause-ok
returns-then-text-clause-ok c = IfOk-weaker c.make_text.result _ _ (λ at made others.
    subst (λ (b : Bool). Makes c.args.class.0 b c.args.fields.now c.args.heap.now others c.make_text.new.self at) (sym c.if-text.true)
    (subst (λ (p : ℕ × Things). Makes c.args.class.0 true c.args.fields.now c.args.heap.now others p.1 (record { 0 = p.0 })) (sym made) (text_made c.args.heap.now others c.args.class c.args.fields.now)))
    c.make_text.ensures.ok

pub returns-else-text-clause-ok : goal.returns-else-text-clause-ok
returns-else-text-clause-ok c = IfOk-weaker c.make.result _ _ (λ at made others.
    subst (λ (b : Bool). Makes c.args.class.0 b c.args.fields.now c.args.heap.now others c.make.new.self at) (sym c.if-text.false)
    (subst (λ (p : ℕ × Things). Makes c.args.class.0 false c.args.fields.now c.args.heap.now others p.1 (record { 0 = p.0 })) (sym made) (object_made c.args.heap.now others c.args.class c.args.fields.now)))
    c.make.ensures.ok

pub returns-then-text-clause-added : goal.returns-then-text-clause-added
returns-then-text-clause-added c = IfOk-weaker c.make_text.result _ _ (λ at made.
    made ∙ ap (λ (b : Bool). with_made c.args.heap.now (Class c.args.class) (new_content b c.args.fields.now)) (sym c.if-text.true)) c.make_text.ensures.ok

pub returns-else-text-clause-added : goal.returns-else-text-clause-added
returns-else-text-clause-added c = IfOk-weaker c.make.result _ _ (λ at made.
    made ∙ ap (λ (b : Bool). with_made c.args.heap.now (Class c.args.class) (new_content b c.args.fields.now)) (sym c.if-text.false)) c.make.ensures.ok

pub returns-then-text-clause-filled : goal.returns-then-text-clause-filled
returns-then-text-clause-filled c = IfOk-weaker c.make_text.result _ _ (λ at made s is.
    subst (λ (p : ℕ × Things). StaysFilled c.args.heap.now p.1 s) (sym made)
    (text_filled c.args.heap.now c.args.class c.args.fields.now [] s (subst (λ (b : Bool). IsClass c.args.class.0 b c.args.fields.now s) c.if-text.true is)))
    c.make_text.ensures.ok

pub returns-else-text-clause-filled : goal.returns-else-text-clause-filled
returns-else-text-clause-filled c = IfOk-weaker c.make.result _ _ (λ at made s is.
    subst (λ (p : ℕ × Things). StaysFilled c.args.heap.now p.1 s) (sym made) (fields_filled c.args.heap.now c.args.class c.args.fields.now s is.of_types))
    c.make.ensures.ok
