use Rattle.std.proofs.Common.{◌≡◌, drop}
use Rattle.std.specs.List.{filter_map}
use Rattle.class_machine.specs.ClassFiles.{code_in, first_of}
use Rattle.machine_code.proofs.code.first_code.Given as goal

-- what is left decides
abbrev pub invariant-loop-attribute : goal.invariant-loop-attribute
invariant-loop-attribute l = first_of (filter_map code_in (drop l.attribute-index l.attributes)) ≡ first_of (filter_map code_in l.attributes)
