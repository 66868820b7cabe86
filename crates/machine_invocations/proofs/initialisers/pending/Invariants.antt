use Rattle.machine_invocations.proofs.Initialised.{Pends}
use Rattle.machine_invocations.proofs.initialisers.pending.Given as goal

abbrev pub invariant-upward : goal.invariant-upward
invariant-upward l = Pends l.world l.begun l.initial.at.0 l._turn l.at.0 l.frames.items
