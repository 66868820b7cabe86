use Rattle.std.proofs.Common.{◌≡◌, [], length}
use Rattle.class_text.specs.Labels.{mislabelled}
use Rattle.class_text.proofs.labels.mislabelled.Given as goal

abbrev pub invariant-loop-rest : goal.invariant-loop-rest
invariant-loop-rest l = mislabelled l.body l.pc l.rest ≡ mislabelled [] 0 l.lines

abbrev pub decreases-loop-rest : goal.decreases-loop-rest
decreases-loop-rest l = length l.rest
