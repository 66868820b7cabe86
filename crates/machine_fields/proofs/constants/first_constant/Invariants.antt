use Rattle.std.proofs.Common.{◌≡◌, drop}
use Rattle.std.specs.List.{filter_map}
use Rattle.class_machine.specs.ClassFiles.{constant_in, first_of}
use Rattle.machine_fields.proofs.constants.first_constant.Given as goal

-- what is left decides
abbrev pub invariant-loop-attribute : goal.invariant-loop-attribute
invariant-loop-attribute l = first_of (filter_map (constant_in l.pool) (drop l.attribute-index l.attributes)) ≡ first_of (filter_map (constant_in l.pool) l.attributes)
