use Rattle.std.proofs.Common.{◌-◌}
use Rattle.class_format.specs.Readers.{listed}
use Rattle.class_format.specs.PartReading.{line}
use Rattle.class_format.proofs.Loop.{AreLeft}
use Rattle.class_format.proofs.tables.lines_at.Given as goal

abbrev pub invariant-loop : goal.invariant-loop
invariant-loop l = AreLeft (line) (l.count - l.counter) l.rows l.scope l.rest (listed (line) l.scope l.bytes)
