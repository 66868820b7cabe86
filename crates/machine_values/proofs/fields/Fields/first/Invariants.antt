use Rattle.std.proofs.Common.{◌≡◌, take, map}
use Rattle.machine_values.specs.First.{first_value}
use Rattle.machine_values.proofs.fields.Fields.first.Given as goal

abbrev pub invariant-loop-field : goal.invariant-loop-field
invariant-loop-field l = l.values.items ≡ map first_value (take l.field-index l.types)
