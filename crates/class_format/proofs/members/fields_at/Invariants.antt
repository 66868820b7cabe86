use Rattle.std.proofs.Common.{◌-◌}
use Rattle.class_format.specs.PartReading.{field}
use Rattle.class_format.specs.Reading.{fields}
use Rattle.class_format.proofs.Loop.{AreLeft}
use Rattle.class_format.proofs.members.fields_at.Given as goal

abbrev pub invariant-loop : goal.invariant-loop
invariant-loop l =
    AreLeft (field l.known.major l.known.pool.now) (l.count - l.counter) l.fields l.scope l.rest (fields l.known.major l.known.pool.now l.scope l.bytes)
