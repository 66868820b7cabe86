use Rattle.std.proofs.Common.{◌≡◌, length}
use Rattle.machine_steps.proofs.leaving.empty.Given as goal

abbrev pub invariant-emptying : goal.invariant-emptying
invariant-emptying l = l.operands.room ≡ l.initial.operands.room

abbrev pub decreases-emptying : goal.decreases-emptying
decreases-emptying l = length l.operands.values
