use Rattle.machine_invocations.proofs.Filled.{Fills}
use Rattle.machine_invocations.proofs.entering.call_locals.Given as goal

abbrev pub invariant-loop-value : goal.invariant-loop-value
invariant-loop-value l = Fills l.given l.count l.value-index l.at l.locals
