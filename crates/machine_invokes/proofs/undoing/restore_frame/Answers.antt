use Rattle.std.specs.Prelude.{◌∷◌, [], List, reverse}
use Rattle.std.proofs.Common.{subst}
use Rattle.machine_values.specs.declared.values.Local.{Local}
use Rattle.machine_values.specs.declared.values.Value.{Value}
use Rattle.machine_invokes.specs.Taking.{PutsBack}
use Rattle.machine_invokes.specs.Undoing.{Refills}
use Rattle.machine_invokes.proofs.Refilled.{arguments_restored, receiver_restored, token_restored}
use Rattle.machine_invokes.proofs.undoing.restore_frame.Goals as goal

pub returns-in-Arguments : goal.returns-in-Arguments
returns-in-Arguments c =
    arguments_restored c.args.index c.args.call.now c.args.state.now _ c.put_arguments_back.new.state c.in-Arguments.is
    (subst (λ (vs : List Value). PutsBack c.args.index (reverse vs) c.args.state.now c.put_arguments_back.new.state) c.as_slice.ensures.value c.put_arguments_back.ensures)

pub returns-in-Receiver : goal.returns-in-Receiver
returns-in-Receiver c =
    let first = c.put_arguments_back-in-Receiver.new.state in
    let new = c.put_arguments_back-in-Receiver-2.new.state in
    receiver_restored c.args.index c.args.call.now c.args.state.now first new c.in-Receiver.is
    (subst (λ (v : Value). PutsBack c.args.index (v ∷ []) c.args.state.now first) c.reference_value.ensures c.put_arguments_back-in-Receiver.ensures)
    (subst (λ (vs : List Value). PutsBack c.args.index (reverse vs) first new) c.as_slice-in-Receiver.ensures.value c.put_arguments_back-in-Receiver-2.ensures)

pub returns-in-Token : goal.returns-in-Token
returns-in-Token c =
    let first = c.refill_at.new.state in
    let second = c.put_arguments_back-in-Token.new.state in
    let new = c.put_arguments_back-in-Token-2.new.state in
    token_restored c.args.index c.args.call.now c.args.state.now c.in-Token.class c.in-Token.number _ _ first second new c.in-Token.is
    (subst (λ (vs : List Value). Refills c.args.index vs c.in-Token.locals c.args.state.now first) c.as_slice-in-Token.ensures
    (subst (λ (ls : List Local). Refills c.args.index c.as_slice-in-Token.result.now ls c.args.state.now first) c.as_slice-in-Token-2.ensures c.refill_at.ensures))
    c.put_arguments_back-in-Token.ensures
    (subst (λ (vs : List Value). PutsBack c.args.index (reverse vs) second new) c.as_slice-in-Token-3.ensures.value c.put_arguments_back-in-Token-2.ensures)
