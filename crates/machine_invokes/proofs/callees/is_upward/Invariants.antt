use Rattle.machine_invokes.proofs.Rising.{Rises}
use Rattle.machine_invokes.proofs.callees.is_upward.Given as goal

abbrev pub invariant-upward : goal.invariant-upward
invariant-upward l = Rises l.world.heads l.name l.fn.class.0 l._turn l.at.0
