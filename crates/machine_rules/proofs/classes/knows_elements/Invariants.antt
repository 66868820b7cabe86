use Rattle.std.proofs.Common.{◌≡◌, length}
use Rattle.class_heads.specs.Hierarchy.{is_known, type_of_descriptor}
use Rattle.machine_rules.proofs.classes.knows_elements.Given as goal

abbrev pub invariant-loop-rest : goal.invariant-loop-rest
invariant-loop-rest l = is_known l.fn.world.heads (type_of_descriptor l.fn.descriptor) ≡ is_known l.fn.world.heads (type_of_descriptor l.rest)

abbrev pub decreases-loop-rest : goal.decreases-loop-rest
decreases-loop-rest l = length l.rest
