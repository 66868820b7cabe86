use Rattle.std.proofs.Common.{◌≡◌, take, map}
use Rattle.std.specs.Prelude.{◌==◌, if◌then◌else◌}
use Rattle.machine_rules.proofs.texts.class_of_text.Given as goal

abbrev pub invariant-loop-unit : goal.invariant-loop-unit
invariant-loop-unit l = l.slashed.items ≡ map (λ u. if u == 46 then 47 else u) (take l.unit-index l.units)
