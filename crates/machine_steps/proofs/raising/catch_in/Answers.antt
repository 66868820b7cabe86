use Rattle.std.proofs.Common.{◌≡◌, ◌+◌, [], add-one, ap, ◌∙◌, refl}
use Rattle.std.specs.Prelude.{slice_set}
use Rattle.std.specs.Vec.{with_item}
use Rattle.machine_values.specs.declared.frames.Frame.{Frame}
use Rattle.machine_values.specs.declared.state.MachineState.{MachineState}
use Rattle.machine_steps.specs.Giving.{with_values, rest_is}
use Rattle.machine_steps.proofs.Caught.{caught_by}
use Rattle.machine_steps.proofs.raising.catch_in.Goals as goal

pub returns-clause-caught : goal.returns-clause-caught
returns-clause-caught c class catches =
    let mid = c.leave_above.new.state in
    let f = c.index_mut.result.now in
    let p : Frame = record f { operands = c.empty.new.operands } in
    let alone : MachineState = record mid { frames = with_item mid.frames c.args.index p } in
    let same : p ≡ with_values f [] = rest_is f p refl c.empty.ensures.room ∙ ap (with_values f) c.empty.ensures.values in
    caught_by c.args.world.now c.args.state.now mid alone c.give.new.state c.give.result class c.args.index c.args.pc (c.args.index + 1) c.args.x f (add-one c.args.index) c.leave_above.ensures catches
    c.index_mut.ensures.value refl (ap (slice_set mid.frames.items c.args.index) same) c.give.ensures.moves
