use Rattle.std.proofs.Common.{◌≡◌, ◌++◌, length}
use Rattle.class_machine.specs.Texts.{units_of}
use Rattle.machine_rules.proofs.texts.put_units.Given as goal

abbrev pub invariant-loop-unit : goal.invariant-loop-unit
invariant-loop-unit l = l.out.items ++ units_of l.rest ≡ l.fn.out.items ++ units_of l.fn.bytes

abbrev pub decreases-loop-unit : goal.decreases-loop-unit
decreases-loop-unit l = length l.rest
