use Rattle.std.proofs.Common.{◌-◌}
use Rattle.class_format.specs.Readers.{listed, index_that}
use Rattle.class_file.specs.WellFormed.{is_class_index}
use Rattle.class_format.proofs.Loop.{AreLeft}
use Rattle.class_format.proofs.tables.classes_at.Given as goal

abbrev pub invariant-loop : goal.invariant-loop
invariant-loop l = AreLeft (index_that (is_class_index l.known.pool.now)) (l.count - l.counter) l.classes l.scope l.rest (listed (index_that (is_class_index l.known.pool.now)) l.scope l.bytes)
