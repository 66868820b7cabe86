use Rattle.machine_invokes.proofs.Climbing.{Climbs}
use Rattle.machine_invokes.proofs.begun.have_begun.Given as goal

abbrev pub invariant-upward : goal.invariant-upward
invariant-upward l = Climbs l.world l.begun l.fn.class.0 l._turn l.at.0
