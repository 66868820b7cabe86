use Rattle.machine_values.specs.Stacks.{filled_local}
use Rattle.machine_values.proofs.Slots.{written_over}
use Rattle.machine_values.proofs.locals.fill_in.Goals as goal

pub loop-local-preserved : goal.loop-local-preserved
loop-local-preserved c =
    written_over (filled_local c.args.number c.args.object) c.args.locals.now c.loop-local.locals c.loop-local.local-index _ c.filled_in.result c.loop-local-test.true c.loop-local.auto.locals c.loop-local.invariant c.filled_in.ensures
