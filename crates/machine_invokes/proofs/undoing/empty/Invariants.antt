use Rattle.std.specs.Prelude.{◌≡◌, length}
use Rattle.machine_invokes.proofs.undoing.empty.Given as goal

abbrev pub invariant-emptying : goal.invariant-emptying
invariant-emptying l = l.operands.room ≡ l.initial.operands.room

abbrev pub decreases-emptying : goal.decreases-emptying
decreases-emptying l = length l.operands.values
