use Rattle.std.proofs.Common.{◌≡◌, ◌+◌, drop}
use Rattle.class_rules.specs.FirstUnsound.{unsound_from, first_unsound}
use Rattle.class_rules.proofs.pool.pool_fault.Given as goal

abbrev pub invariant-loop-entry : goal.invariant-loop-entry
invariant-loop-entry l = record {
  place : l.index ≡ l.entry-index + 1;
  rest : unsound_from l.pool l.index (drop l.entry-index l.pool) ≡ first_unsound l.pool;
}
