use Rattle.std.proofs.Common.{◌≡◌, ◌+◌, take}
use Rattle.machine_values.specs.Stacks.{weight}
use Rattle.machine_invocations.proofs.entering.fits.Given as goal

abbrev pub invariant-loop-value : goal.invariant-loop-value
invariant-loop-value l = l.left + weight (take l.value-index l.given) ≡ l.locals
