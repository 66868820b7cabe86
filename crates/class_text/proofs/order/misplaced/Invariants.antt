use Rattle.std.proofs.Common.{◌≡◌, length}
use Rattle.class_text.specs.declared.order.Place.{Place}
use Rattle.class_text.specs.Order.{misplaced}
use Rattle.class_text.proofs.order.misplaced.Given as goal

abbrev pub invariant-loop-rest : goal.invariant-loop-rest
invariant-loop-rest l = misplaced l.last l.place l.rest ≡ misplaced l.last Place.Start l.lines

abbrev pub decreases-loop-rest : goal.decreases-loop-rest
decreases-loop-rest l = length l.rest
