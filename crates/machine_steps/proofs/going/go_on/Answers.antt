use Rattle.std.proofs.Common.{◌-◌, refl, arith}
use Rattle.std.proofs.lemmas.Option.{slice_get_read}
use Rattle.std.specs.Vec.{with_item}
use Rattle.machine_values.specs.declared.state.MachineState.{MachineState}
use Rattle.machine_steps.specs.Running.{turned_at}
use Rattle.machine_steps.specs.Going.{nowhere_breaks, goes_there}
use Rattle.machine_steps.proofs.going.go_on.Goals as goal

pub returns-then-not-stands_at-clause-moves : goal.returns-then-not-stands_at-clause-moves
returns-then-not-stands_at-clause-moves c = nowhere_breaks c.args.world.now c.args.state.now c.args.state.now c.args.pc c.if-not-stands_at.ensures.place

pub returns-clause-moves : goal.returns-clause-moves
returns-clause-moves c =
    let old = c.args.state.now in
    let top = c.len-top.result - 1 in
    let new : MachineState = record old { frames = with_item old.frames top (record c.index_mut.result.now { pc = c.args.pc }) } in
    goes_there c.args.world.now old new c.args.pc _ c.index_mut.result.now
    (turned_at old new top c.index_mut.result.now _ (omega (arith, old.frames.ok.0, c.if-not-stands_at.ensures.frames))
    (slice_get_read old.frames.items c.len-top.result top c.index_mut.result.now (omega (arith, old.frames.ok.0)) (omega arith) c.index_mut.ensures.value) refl refl)
    c.if-not-stands_at.ensures.place
