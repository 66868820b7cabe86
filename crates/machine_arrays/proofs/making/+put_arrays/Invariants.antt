use Rattle.std.proofs.Common.{length}
use Rattle.machine_arrays.proofs.Filling.{Filling}
use Rattle.machine_arrays.proofs.making.+put_arrays.Given as goal

abbrev pub decreases-put_arrays : goal.decreases-put_arrays
decreases-put_arrays l = length l.sizes.now

abbrev pub invariant-filling : goal.invariant-filling
invariant-filling l = Filling l.fn.heap l.class l.inner l.count l.index l.at.0 l.heap
