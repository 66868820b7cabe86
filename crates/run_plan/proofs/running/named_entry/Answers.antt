use Rattle.std.proofs.Common.{refl}
use Rattle.run_plan.proofs.Entering.{entry_named}
use Rattle.run_plan.proofs.running.named_entry.Goals as goal

pub returns : goal.returns
returns c =
    entry_named c.args.world.now c.args.words c.as_slice.result.now c.as_slice-2.result.now c.as_slice-3.result.now
    c.as_slice.ensures c.as_slice-2.ensures c.as_slice-3.ensures
    (record { method = c.in_ok-method.method; args = c.args.words.args }) c.in_ok-method.ensures.method refl c.in_ok-method.ensures.found
