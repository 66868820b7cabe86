use Rattle.std.proofs.Common.{◌≡◌, ◌++◌, drop}
use Rattle.machine_fields.specs.NewObjects.{held_by, own_elements}
use Rattle.machine_fields.proofs.new_objects.push_own.Given as goal

-- what is left is still to come
abbrev pub invariant-loop-field : goal.invariant-loop-field
invariant-loop-field l = held_by l.types.items ++ own_elements (drop l.field-index l.fields) ≡ held_by l.initial.types.items ++ own_elements l.fields
