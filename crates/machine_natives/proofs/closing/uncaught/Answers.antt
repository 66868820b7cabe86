use Rattle.std.proofs.Common.{List, ℕ, sym, ◌∙◌, ap}
use Rattle.class_machine.specs.Events as events
use Rattle.class_machine.specs.Values.{class_of}
use Rattle.machine_values.specs.Standing.{name_of}
use Rattle.machine_steps.proofs.Thrown.{class_is}
use Rattle.machine_natives.proofs.closing.uncaught.Goals as goal

pub returns : goal.returns
returns c m left t is runs =
    let k = c.args.world.now in
    let state = c.args.state.now in
    let class = c.in-Some.class in
    ap (λ (n : List ℕ). events.Uncaught n c.in_ok-message.message) (c.in_ok-name.ensures ∙ c.class_name.ensures ∙ sym (class_is k state c.args.x m left t is runs class c.in-Some.ensures.place))
    ∙ ap (events.Uncaught (class_of (name_of m.setting.heads state.heap.names c.args.x)))
    (sym (c.in_ok-message.ensures (λ m' left' t' is' runs'. class_is k state c.args.x m' left' t' is' runs' class c.in-Some.ensures.place) m left t is runs))
