use Rattle.std.specs.Prelude.{ℕ, length}
use Rattle.std.specs.List.{list_all}
use Rattle.std.proofs.Common.{sym, ◌∙◌, ap, subst}
use Rattle.class_file.specs.Lookup.{reference_seen}
use Rattle.machine_values.specs.Standing.{is_settled}
use Rattle.machine_frames.specs.declared.calls.Receiver.{Receiver}
use Rattle.machine_frames.specs.declared.calls.Receiver.TheVariants.{Object}
use Rattle.machine_invokes.specs.Callees.{CalleeIs}
use Rattle.machine_invokes.proofs.Receivers.{unfine_breaks}
use Rattle.machine_invokes.proofs.Started.{all_found}
use Rattle.machine_invokes.proofs.callees.callee_of.Goals as goal

pub returns-then-not-are_settled-clause-called : goal.returns-then-not-are_settled-clause-called
returns-then-not-are_settled-clause-called c =
    unfine_breaks c.args.world.now c.args.frame.now c.args.state.now.heap.names c.args.special (reference_seen c.args.named) c.args.call.now.receiver c.args.call.now.arguments.items
    (ap (λ (n : ℕ). list_all (is_settled n) c.args.call.now.arguments.items) (sym c.count.ensures.count) ∙ ap (list_all (is_settled c.count.result)) (sym c.as_slice.ensures.value) ∙ sym c.are_settled.ensures ∙ c.if-not-are_settled.true)

pub returns-in-None-clause-called : goal.returns-in-None-clause-called
returns-in-None-clause-called c =
    subst (λ (x : Receiver). CalleeIs c.args.world.now c.args.frame.now c.args.state.now.heap.names c.args.special (reference_seen c.args.named) x c.args.call.now.arguments.items c.callee_of_null.result)
    (sym (c.in-Object.is ∙ ap Object c.in-None.is))
    (c.callee_of_null.ensures.called c.args.state.now.heap.names c.args.special c.args.call.now.arguments.items)

pub returns-in-Some-clause-called : goal.returns-in-Some-clause-called
returns-in-Some-clause-called c =
    let names = c.args.state.now.heap.names in
    let given = c.args.call.now.arguments.items in
    subst (λ (x : Receiver). CalleeIs c.args.world.now c.args.frame.now names c.args.special (reference_seen c.args.named) x given c.callee_of_object.result)
    (sym (c.in-Object.is ∙ ap Object c.in-Some.is))
    (c.callee_of_object.ensures.called given
    (all_found (is_settled (length names)) given
    (ap (λ (n : ℕ). list_all (is_settled n) given) (sym c.count.ensures.count) ∙ ap (list_all (is_settled c.count.result)) (sym c.as_slice.ensures.value) ∙ sym c.are_settled.ensures ∙ c.if-not-are_settled.false)))

pub returns-in-Announced-clause-called : goal.returns-in-Announced-clause-called
returns-in-Announced-clause-called c =
    let names = c.args.state.now.heap.names in
    let given = c.args.call.now.arguments.items in
    subst (λ (x : Receiver). CalleeIs c.args.world.now c.args.frame.now names c.args.special (reference_seen c.args.named) x given c.callee_of_token.result)
    (sym c.in-Announced.is)
    (c.callee_of_token.ensures.called names given
    (all_found (is_settled (length names)) given
    (ap (λ (n : ℕ). list_all (is_settled n) given) (sym c.count.ensures.count) ∙ ap (list_all (is_settled c.count.result)) (sym c.as_slice.ensures.value) ∙ sym c.are_settled.ensures ∙ c.if-not-are_settled.false)))
