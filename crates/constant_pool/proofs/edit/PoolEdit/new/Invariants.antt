use Rattle.std.proofs.Common.{◌≡◌, take}
use Rattle.constant_pool.proofs.edit.PoolEdit.new.Given as goal

abbrev pub invariant-loop-entry : goal.invariant-loop-entry
invariant-loop-entry l = l.edit ≡ take l.entry-index l.pool
