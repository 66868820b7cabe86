use Rattle.std.proofs.Common.{◌≡◌, drop, false}
use Rattle.class_machine.specs.Descriptors.{behind_bracket}
use Rattle.machine_code.proofs.descriptors.result_type.Given as goal

-- what is left decides
abbrev pub invariant-loop-i : goal.invariant-loop-i
invariant-loop-i l = behind_bracket l.inside (drop l.i l.descriptor) ≡ behind_bracket false l.descriptor
