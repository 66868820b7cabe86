use Rattle.machine_invocations.proofs.Upward.{Looks}
use Rattle.machine_invocations.proofs.selection.is_upward.Given as goal

abbrev pub invariant-upward : goal.invariant-upward
invariant-upward l = Looks l.world.heads l.name l.initial.at.0 l._turn l.at.0
