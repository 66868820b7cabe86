use Rattle.std.proofs.Common.{◌≡◌, length}
use Rattle.class_machine.specs.Texts.{is_reserved}
use Rattle.machine_rules.proofs.texts.is_reserved.Given as goal

abbrev pub invariant-loop-rest : goal.invariant-loop-rest
invariant-loop-rest l = is_reserved l.fn.units ≡ is_reserved l.rest

abbrev pub decreases-loop-rest : goal.decreases-loop-rest
decreases-loop-rest l = length l.rest
