use Rattle.std.proofs.Common.{◌-◌, refl, arith}
use Rattle.std.proofs.lemmas.Option.{slice_get_read}
use Rattle.std.specs.Vec.{with_item}
use Rattle.std.proofs.Common.{inl}
use Rattle.machine_values.specs.declared.state.MachineState.{MachineState}
use Rattle.machine_statics.specs.Tops.{with_operands}
use Rattle.machine_statics.proofs.Tops.{put_on_is, idle_there}
use Rattle.machine_statics.proofs.announcing.put_on.Goals as goal

pub returns-then-count-lt1 : goal.returns-then-count-lt1
returns-then-count-lt1 c = inl (idle_there c.args.state.now (omega (arith, c.args.state.now.frames.ok.0, c.if-count-lt1.true)))

pub returns : goal.returns
returns c =
    let old = c.args.state.now in
    let top = c.len-count.result - 1 in
    let x = c.index_mut.result.now in
    let new : MachineState = record old { frames = with_item old.frames top (with_operands x c.push.new.self) } in
    put_on_is old new top x (omega (arith, old.frames.ok.0, c.if-count-lt1.false)) (slice_get_read old.frames.items c.len-count.result top x (omega (arith, old.frames.ok.0)) (omega (arith, c.if-count-lt1.false)) c.index_mut.ensures.value) refl
    c.args.value c.push.new.self c.push.result refl c.push.ensures.room c.push.ensures.pushed
