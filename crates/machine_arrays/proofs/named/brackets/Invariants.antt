use Rattle.std.proofs.Common.{◌≡◌, ◌+◌, ◌++◌, replicate, length}
use Rattle.machine_arrays.proofs.named.brackets.Given as goal

abbrev pub invariant-counting : goal.invariant-counting
invariant-counting l = record {
  parts : l.descriptor ≡ replicate l.count 91 ++ l.rest;
  whole : l.count + length l.rest ≡ length l.descriptor;
}

abbrev pub decreases-counting : goal.decreases-counting
decreases-counting l = length l.rest
