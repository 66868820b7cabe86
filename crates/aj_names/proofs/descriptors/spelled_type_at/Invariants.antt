use Rattle.std.proofs.Common.{◌≡◌, ◌-◌, length}
use Rattle.aj_names.specs.Reading.{type_at, field_at}
use Rattle.aj_names.proofs.Scans.{behind_dims}
use Rattle.aj_names.proofs.descriptors.spelled_type_at.Given as goal

abbrev pub invariant-loop-rest : goal.invariant-loop-rest
invariant-loop-rest l = behind_dims l.dims (type_at (255 - l.dims) l.rest) ≡ field_at l.bytes

abbrev pub decreases-loop-rest : goal.decreases-loop-rest
decreases-loop-rest l = length l.rest
