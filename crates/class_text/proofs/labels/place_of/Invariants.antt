use Rattle.std.proofs.Common.{◌≡◌, length}
use Rattle.class_text.specs.Labels.{place_of}
use Rattle.class_text.proofs.labels.place_of.Given as goal

abbrev pub invariant-loop-rest : goal.invariant-loop-rest
invariant-loop-rest l = place_of l.name l.pc l.rest ≡ place_of l.name 0 l.body

abbrev pub decreases-loop-rest : goal.decreases-loop-rest
decreases-loop-rest l = length l.rest
