use Rattle.std.proofs.Common.{◌≡◌, ◌-◌, refl, arith, ap, subst}
use Rattle.std.specs.Prelude.{slice_set, length, take}
use Rattle.std.proofs.lemmas.Option.{slice_get_read}
use Rattle.std.specs.Vec.{with_item}
use Rattle.class_machine.specs.Effect as definition
use Rattle.machine_values.specs.declared.frames.Frame.{Frame}
use Rattle.machine_values.specs.declared.state.MachineState.{MachineState}
use Rattle.machine_values.specs.States.{IsFrameWithin}
use Rattle.machine_frames.specs.declared.effect.Effect.TheVariants as effects
use Rattle.machine_frames.specs.Naming as naming
use Rattle.machine_frames.specs.Effects.{Does}
use Rattle.machine_steps.specs.Running.{split_last, turned_at}
use Rattle.machine_steps.specs.Giving.{with_values, rest_is, gives_there, overflow_breaks, nowhere_given}
use Rattle.machine_steps.proofs.going.give.Goals as goal

pub returns-then-not-stands_at-clause-moves : goal.returns-then-not-stands_at-clause-moves
returns-then-not-stands_at-clause-moves c = nowhere_given c.args.world.now c.args.state.now c.args.state.now c.args.value c.args.pc c.if-not-stands_at.ensures.place

pub returns-in-On-clause-moves : goal.returns-in-On-clause-moves
returns-in-On-clause-moves c =
    let old = c.args.state.now in
    let top = c.len-top.result - 1 in
    let f = c.index_mut-frame.result.now in
    let p = c.push_constant.new.frame in
    let vs = p.operands.values in
    let same : p ≡ with_values f vs = rest_is f p c.push_constant.ensures.rest c.push_constant.ensures.room in
    let new : MachineState = record old { frames = with_item old.frames top (record p { pc = c.args.pc }) } in
    let set : new.frames.items ≡ slice_set old.frames.items top (record (with_values f vs) { pc = c.args.pc }) = ap (λ (q : Frame). slice_set old.frames.items top (record q { pc = c.args.pc })) same in
    let there = slice_get_read old.frames.items c.len-top.result top f (omega (arith, old.frames.ok.0)) (omega arith) c.index_mut-frame.ensures.value in
    gives_there c.args.world.now old new c.args.value c.args.pc _ f vs (turned_at old new top f _ (omega (arith, old.frames.ok.0, c.if-not-stands_at.ensures.frames)) there refl set)
    (λ w. subst (IsFrameWithin (length old.heap.names)) same (c.push_constant.ensures.within (length old.heap.names) c.requires.settled w))
    (λ n. subst (λ (q : Frame). Does n (definition.constant f.operands.room (naming.held n c.args.value)) f q effects.On) same (c.in-On.ensures.done n (length old.heap.names) c.requires.settled))
    c.if-not-stands_at.ensures.place

pub returns-in_default-clause-moves : goal.returns-in_default-clause-moves
returns-in_default-clause-moves c =
    let old = c.args.state.now in
    let top = c.len-top.result - 1 in
    let f = c.index_mut-frame.result.now in
    let there = slice_get_read old.frames.items c.len-top.result top f (omega (arith, old.frames.ok.0)) (omega arith) c.index_mut-frame.ensures.value in
    overflow_breaks c.args.world.now old (record old { frames = with_item old.frames top c.push_constant.new.frame }) c.args.value c.args.pc (take top old.frames.items) f c.push_constant.new.frame c.push_constant.result
    (split_last old.frames.items top f (omega (arith, old.frames.ok.0, c.if-not-stands_at.ensures.frames)) there)
    (λ n. c.push_constant.ensures.done n (length old.heap.names) c.requires.settled) c.in_default.not-On
