use Rattle.std.specs.Prelude.{◌-◌, refl}
use Rattle.std.proofs.Common.{arith}
use Rattle.std.proofs.lemmas.Option.{slice_get_read}
use Rattle.std.specs.Vec.{with_item}
use Rattle.machine_values.specs.declared.state.MachineState.{MachineState}
use Rattle.machine_steps.specs.Running.{turned_at}
use Rattle.machine_basics.proofs.performing.perform_running.Goals as goal

pub returns : goal.returns
returns c =
    let old = c.args.state.now in
    let top = c.len-top.result - 1 in
    let f = c.index_mut.result.now in
    let g = c.perform.new.frame in
    let new : MachineState = record old { frames = with_item old.frames top g } in
    record {
      rest = _;
      before = f;
      after = g;
      turned = turned_at old new top f g (omega (arith, old.frames.ok.0, c.requires)) (slice_get_read old.frames.items c.len-top.result top f (omega (arith, old.frames.ok.0)) (omega arith) c.index_mut.ensures.value) refl refl;
      kept = c.perform.ensures.kept;
      done = c.perform.ensures.done;
      within = c.perform.ensures.within;
      known = c.perform.ensures.known;
      undone = c.perform.ensures.undone;
    }
