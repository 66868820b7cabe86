use Rattle.std.proofs.Common.{true, false, ap}
use Rattle.std.proofs.lemmas.Result.{IfOk-weaker}
use Rattle.machine_values.specs.States.{machine_purpose}
use Rattle.machine_steps.specs.Programs.{Machine}
use Rattle.machine_statics.proofs.Returned.{frame_split, out_of_call, initialiser_left}
use Rattle.machine_statics.proofs.Tops.{last_frame}
use Rattle.machine_statics.proofs.returning.leave_frame.Goals as goal

pub returns-in-Ordinary-clause-moves : goal.returns-in-Ordinary-clause-moves
returns-in-Ordinary-clause-moves c =
    let old = c.args.state.now in
    IfOk-weaker c.leave_call.result _ _ (λ step moves.
    out_of_call c.args.world.now old c.leave_call.new.state step c.args.value _ c.in-Some.frame.now (frame_split old.frames.items c.deref.result.now c.in-Some.frame.now c.deref.ensures.value c.in-Some.ensures.value) false
    (λ (m : Machine). ap (machine_purpose m.setting.heads m.methods old.heap.names) c.in-Ordinary.is) moves) c.leave_call.ensures.moves

pub returns-in-Constructs-clause-moves : goal.returns-in-Constructs-clause-moves
returns-in-Constructs-clause-moves c =
    let old = c.args.state.now in
    IfOk-weaker c.leave_call-in-Constructs.result _ _ (λ step moves.
    out_of_call c.args.world.now old c.leave_call-in-Constructs.new.state step c.args.value _ c.in-Some.frame.now (frame_split old.frames.items c.deref.result.now c.in-Some.frame.now c.deref.ensures.value c.in-Some.ensures.value) true
    (λ (m : Machine). ap (machine_purpose m.setting.heads m.methods old.heap.names) c.in-Constructs.is) moves) c.leave_call-in-Constructs.ensures.moves

pub returns-in-Initialises-clause-moves : goal.returns-in-Initialises-clause-moves
returns-in-Initialises-clause-moves c =
    let old = c.args.state.now in
    initialiser_left c.args.world.now old c.leave_running-left.new.state c.args.value c.in-Some.frame.now c.in-Initialises.field-0 c.leave_running-left.result c.leave_running-left.ensures.left
    (last_frame old.frames.items c.deref.result.now c.in-Some.frame.now c.deref.ensures.value c.in-Some.ensures.value) c.in-Initialises.is
