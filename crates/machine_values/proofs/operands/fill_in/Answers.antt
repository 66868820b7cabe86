use Rattle.std.proofs.Common.{length, arith}
use Rattle.machine_values.specs.declared.values.Value.TheVariants.{Null}
use Rattle.machine_values.specs.Stacks.{filled_in}
use Rattle.machine_values.proofs.Slots.{written_over}
use Rattle.machine_values.proofs.operands.fill_in.Goals as goal

pub loop-value-preserved : goal.loop-value-preserved
loop-value-preserved c =
    written_over (filled_in c.args.number c.args.object) c.args.values.now c.loop-value.values c.loop-value.value-index _ c.filled_in.result c.loop-value-test.true c.loop-value.auto.values c.loop-value.invariant c.filled_in.ensures
