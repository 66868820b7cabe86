use Rattle.std.proofs.Common.{◌-◌}
use Rattle.class_format.specs.Readers.{listed}
use Rattle.class_format.specs.PartReading.{exception}
use Rattle.class_format.proofs.Loop.{AreLeft}
use Rattle.class_format.proofs.tables.exceptions_at.Given as goal

abbrev pub invariant-loop : goal.invariant-loop
invariant-loop l = AreLeft (exception l.known.pool.now) (l.count - l.counter) l.entries l.scope l.rest (listed (exception l.known.pool.now) l.scope l.bytes)
