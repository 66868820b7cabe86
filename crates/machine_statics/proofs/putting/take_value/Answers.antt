use Rattle.std.proofs.Common.{◌-◌, refl, arith, inl}
use Rattle.std.proofs.lemmas.Option.{slice_get_read}
use Rattle.std.specs.Vec.{with_item}
use Rattle.machine_values.specs.declared.state.MachineState.{MachineState}
use Rattle.machine_statics.proofs.Tops.{take_top_is, idle_there}
use Rattle.machine_statics.proofs.putting.take_value.Goals as goal

pub returns-then-count-lt1 : goal.returns-then-count-lt1
returns-then-count-lt1 c = inl (idle_there c.args.state.now (omega (arith, c.args.state.now.frames.ok.0, c.if-count-lt1.true)))

pub returns : goal.returns
returns c =
    let old = c.args.state.now in
    let top = c.len-count.result - 1 in
    let x = c.index_mut.result.now in
    let y = c.put_static.new.frame in
    let new : MachineState = record old { frames = with_item old.frames top y } in
    take_top_is old new top x (omega (arith, old.frames.ok.0, c.if-count-lt1.false)) (slice_get_read old.frames.items c.len-count.result top x (omega (arith, old.frames.ok.0)) (omega (arith, c.if-count-lt1.false)) c.index_mut.ensures.value) refl
    y c.args.kind c.put_static.ensures.rest refl c.put_static.ensures.room c.put_static.ensures.within c.put_static.result c.put_static.ensures.taken c.put_static.ensures.known
