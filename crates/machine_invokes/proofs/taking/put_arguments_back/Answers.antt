use Rattle.std.proofs.Common.{arith}
use Rattle.std.proofs.lemmas.Option.{slice_get_read}
use Rattle.machine_invokes.proofs.Taken.{puts_back}
use Rattle.machine_invokes.proofs.taking.put_arguments_back.Goals as goal

pub returns : goal.returns
returns c =
    let old = c.args.state.now in
    puts_back old c.args.index _ c.index_mut.result.now c.put_back.new.frame
    (slice_get_read old.frames.items _ c.args.index c.index_mut.result.now (omega (arith, old.frames.ok.0)) c.requires c.index_mut.ensures.value) c.put_back.ensures
