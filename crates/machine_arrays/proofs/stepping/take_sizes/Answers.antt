use Rattle.std.proofs.Common.{◌-◌, ap, ◌∙◌, arith}
use Rattle.std.specs.Global.{Vec}
use Rattle.std.specs.Vec.{with_item}
use Rattle.std.proofs.lemmas.Option.{slice_get_read}
use Rattle.std.proofs.lemmas.Result.{on_err_weaker}
use Rattle.machine_values.specs.declared.frames.Frame.{Frame}
use Rattle.machine_values.specs.declared.state.MachineState.{MachineState}
use Rattle.machine_arrays.proofs.Taken.{written_same}
use Rattle.machine_arrays.proofs.stepping.take_sizes.Goals as goal

pub returns-clause-err : goal.returns-clause-err
returns-clause-err c =
    let old : MachineState = c.args.state.now in
    let top = c.len-top.result - 1 in
    let f = c.index_mut.result.now in
    let there = slice_get_read old.frames.items c.len-top.result top f (omega (arith, old.frames.ok.0)) (omega arith) c.index_mut.ensures.value in
    on_err_weaker c.pop_sizes.result (λ same. ap (λ (g : Frame). record old { frames = with_item old.frames top g }) same ∙ ap (λ (fs : Vec Frame). record old { frames = fs }) (written_same old.frames top f there)) c.pop_sizes.ensures.err
