use Rattle.std.proofs.Common.{◌-◌, ◌+◌}
use Rattle.class_format.specs.PartReading.{method}
use Rattle.class_format.specs.Reading.{methods}
use Rattle.class_format.proofs.Loop.{IsLeft}
use Rattle.class_format.proofs.members.methods_at.Given as goal

abbrev pub invariant-loop-position : goal.invariant-loop-position
invariant-loop-position l =
    IsLeft (method l.known.major l.known.pool.now) (λ position m. position + 1) l.position (l.count - l.position) l.methods l.scope l.rest (methods l.known.major l.known.pool.now l.scope l.bytes)
