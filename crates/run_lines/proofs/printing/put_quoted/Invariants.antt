use Rattle.std.proofs.Common.{◌≡◌, ◌++◌, ◌∷◌, take}
use Rattle.std.specs.List.{flat_map}
use Rattle.class_machine.specs.Lines.{quoted_unit}
use Rattle.run_lines.proofs.printing.put_quoted.Given as goal

abbrev pub invariant-loop-unit : goal.invariant-loop-unit
invariant-loop-unit l = l.out.items ≡ l.fn.out.items ++ 34 ∷ flat_map quoted_unit (take l.unit-index l.units)
