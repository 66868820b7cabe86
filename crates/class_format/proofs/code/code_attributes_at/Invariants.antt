use Rattle.std.proofs.Common.{◌-◌}
use Rattle.class_format.specs.Readers.{listed}
use Rattle.class_format.specs.PartReading.{code_attribute}
use Rattle.class_format.proofs.Loop.{AreLeft}
use Rattle.class_format.proofs.code.code_attributes_at.Given as goal

abbrev pub invariant-loop : goal.invariant-loop
invariant-loop l = AreLeft (code_attribute l.known.pool.now) (l.count - l.counter) l.attributes l.scope l.rest (listed (code_attribute l.known.pool.now) l.scope l.bytes)
