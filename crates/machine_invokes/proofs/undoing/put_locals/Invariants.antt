use Rattle.machine_invokes.proofs.Refilled.{PutsLocals}
use Rattle.machine_invokes.proofs.undoing.put_locals.Given as goal

abbrev pub invariant-loop-index : goal.invariant-loop-index
invariant-loop-index l = PutsLocals l.initial.kept l.kept l.locals l.index
