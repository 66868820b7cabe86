use Rattle.machine_invocations.proofs.Marking.{Marks}
use Rattle.machine_invocations.proofs.initialisers.mark.Given as goal

abbrev pub invariant-upward : goal.invariant-upward
invariant-upward l = Marks l.world l.initial.begun l.initial.at.0 l._turn l.at.0 l.begun
