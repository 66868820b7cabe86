use Rattle.std.proofs.Common.{◌≡◌, List, ◌++◌, [], ◌∷◌, reverse, sym, subst}
use Rattle.machine_values.specs.declared.values.Value.{Value}
use Rattle.machine_values.specs.Stacks.{Stack}
use Rattle.machine_frames.specs.Undoing.{receiver_value, TakesAll}
use Rattle.machine_frames.proofs.Undone.{call_back}
use Rattle.machine_frames.proofs.undoing.put_all_of_call_back.Goals as goal

pub returns : goal.returns
returns c s h =
    let arguments = c.args.call.now.arguments.items in
    call_back s c.args.operands.now c.put_all_back.new.operands c.put_all_back-2.new.operands arguments (receiver_value c.args.call.now.receiver) h
    (λ w k. c.put_all_back.ensures.put w (subst (λ (v : Value). TakesAll w (v ∷ []) c.args.operands.now) (sym c.receiver_value-receiver.ensures) k))
    (λ w k. c.put_all_back-2.ensures.put w (subst (λ (vs : List Value). TakesAll w (reverse vs) c.put_all_back.new.operands) (sym c.as_slice.ensures.value) k))
