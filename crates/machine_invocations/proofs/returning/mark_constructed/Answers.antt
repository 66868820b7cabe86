use Rattle.std.specs.Prelude.{◌-◌, true, refl}
use Rattle.std.proofs.Common.{arith}
use Rattle.std.proofs.lemmas.Option.{slice_get_read}
use Rattle.std.specs.Vec.{with_item}
use Rattle.machine_values.specs.declared.state.MachineState.{MachineState}
use Rattle.machine_steps.specs.Running.{turned_at}
use Rattle.machine_invocations.proofs.returning.mark_constructed.Goals as goal

pub returns : goal.returns
returns c =
    let old = c.args.state.now in
    let top = c.len-top.result - 1 in
    let f = c.index_mut.result.now in
    let new : MachineState = record old { frames = with_item old.frames top (record f { constructed = true }) } in
    record {
      rest = _;
      frame = f;
      turned = turned_at old new top f (record f { constructed = true }) (omega (arith, old.frames.ok.0, c.requires))
          (slice_get_read old.frames.items c.len-top.result top f (omega (arith, old.frames.ok.0)) (omega arith) c.index_mut.ensures.value) refl refl;
    }
