use Rattle.std.proofs.Common.{◌-◌}
use Rattle.class_format.specs.Readers.{listed}
use Rattle.class_format.specs.PartReading.{inner_class}
use Rattle.class_format.proofs.Loop.{AreLeft}
use Rattle.class_format.proofs.tables.inner_classes_at.Given as goal

abbrev pub invariant-loop : goal.invariant-loop
invariant-loop l = AreLeft (inner_class l.known.pool.now) (l.count - l.counter) l.classes l.scope l.rest (listed (inner_class l.known.pool.now) l.scope l.bytes)
