use Rattle.std.proofs.Common.{◌≡◌, ◌++◌, length}
use Rattle.std.specs.List.{flat_map}
use Rattle.class_lines.specs.Units.{units_of}
use Rattle.class_lines.specs.Printing.{escape}
use Rattle.class_lines.proofs.printing.put_units.Given as goal

-- what is put out, and the units that are left
abbrev pub invariant-loop-unit : goal.invariant-loop-unit
invariant-loop-unit l = l.out.items ++ flat_map escape (units_of l.rest) ≡ l.fn.out.items ++ flat_map escape (units_of l.text)

abbrev pub decreases-loop-unit : goal.decreases-loop-unit
decreases-loop-unit l = length l.rest
