use Rattle.std.proofs.Common.{◌≡◌, ◌+◌, ◌≤◌, drop, length}
use Rattle.machine_code.proofs.TypeKinds.{kinds}
use Rattle.machine_code.proofs.descriptors.parameter_count.Given as goal

abbrev pub invariant-types : goal.invariant-types
invariant-types l = record {
  counted : l.count + length (kinds l.rest) ≡ length (kinds (drop 1 l.descriptor));
  fits : l.count + length l.rest ≤ length l.descriptor;
}

abbrev pub decreases-types : goal.decreases-types
decreases-types l = length l.rest
