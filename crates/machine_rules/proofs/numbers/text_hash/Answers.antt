use Rattle.std.proofs.Common.{arith, rules}
use Rattle.machine_rules.proofs.Hashes.{hash_step}
use Rattle.machine_rules.proofs.numbers.text_hash.Goals as goal

pub loop-unit-preserved : goal.loop-unit-preserved
loop-unit-preserved c = hash_step c.args.units.now c.loop-unit.unit-index c.from.result c.loop-unit.hash (omega arith) (search rules) c.loop-unit.invariant
