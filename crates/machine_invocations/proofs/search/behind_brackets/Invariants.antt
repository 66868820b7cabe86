use Rattle.std.specs.Prelude.{◌≡◌, List, length}
use Rattle.class_heads.specs.declared.types.ClassHead.{ClassHead}
use Rattle.class_heads.specs.Hierarchy.{is_known, type_of_descriptor}
use Rattle.machine_invocations.proofs.search.behind_brackets.Given as goal

abbrev pub invariant-brackets : goal.invariant-brackets
invariant-brackets l = (heads : List ClassHead) → is_known heads (type_of_descriptor l.element) ≡ is_known heads (type_of_descriptor l.descriptor)

abbrev pub decreases-brackets : goal.decreases-brackets
decreases-brackets l = length l.element
