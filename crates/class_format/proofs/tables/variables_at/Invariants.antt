use Rattle.std.proofs.Common.{◌-◌}
use Rattle.class_format.specs.Readers.{listed}
use Rattle.class_format.specs.Roles.{serves}
use Rattle.class_format.specs.PartReading.{variable}
use Rattle.class_format.proofs.Loop.{AreLeft}
use Rattle.class_format.proofs.tables.variables_at.Given as goal

abbrev pub invariant-loop : goal.invariant-loop
invariant-loop l = AreLeft (variable (serves l.known.pool.now l.role) l.known.pool.now) (l.count - l.counter) l.rows l.scope l.rest (listed (variable (serves l.known.pool.now l.role) l.known.pool.now) l.scope l.bytes)
