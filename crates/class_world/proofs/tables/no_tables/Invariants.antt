use Rattle.std.proofs.Common.{◌≡◌, [], replicate}
use Rattle.class_world.proofs.tables.no_tables.Given as goal

abbrev pub invariant-loop : goal.invariant-loop
invariant-loop l = l.tables.items ≡ replicate l.counter []
