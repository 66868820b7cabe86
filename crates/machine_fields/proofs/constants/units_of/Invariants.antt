use Rattle.std.proofs.Common.{◌≡◌, ◌++◌, length}
use Rattle.class_machine.specs.Texts.{units_of}
use Rattle.machine_fields.proofs.constants.units_of.Given as goal

abbrev pub invariant-reading : goal.invariant-reading
invariant-reading l = l.units.items ++ units_of l.rest ≡ units_of l.bytes

abbrev pub decreases-reading : goal.decreases-reading
decreases-reading l = length l.rest
