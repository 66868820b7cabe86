use Rattle.std.proofs.Common.{arith}
use Rattle.std.proofs.lemmas.List.{length-set}
use Rattle.std.proofs.lemmas.Option.{slice_get_read}
use Rattle.machine_invokes.proofs.Refilled.{refills}
use Rattle.machine_invokes.proofs.undoing.refill_at.Goals as goal

pub returns : goal.returns
returns c =
    let old = c.args.state.now in
    refills old c.args.index c.args.operands.now c.args.locals.now c.index_mut.result.now c.refill.new.frame
    (slice_get_read old.frames.items _ c.args.index c.index_mut.result.now (omega (arith, old.frames.ok.0)) c.requires c.index_mut.ensures.value) (length-set old.frames.items c.args.index c.refill.new.frame) c.refill.ensures
