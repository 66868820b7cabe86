use Rattle.std.proofs.Common.{◌≡◌, ◌+◌, ◌*◌, ◌≤◌, length}
use Rattle.class_text.specs.declared.slots.Scan.{Scan}
use Rattle.class_text.specs.Bytes.{slots}
use Rattle.class_text.proofs.slots.parameter_slots.Given as goal

abbrev pub invariant-loop-rest : goal.invariant-loop-rest
invariant-loop-rest l = record {
  counted : l.slots + slots l.scan l.rest ≡ slots Scan.Type l.bytes;
  few : l.slots + 2 * length l.rest ≤ 2 * length l.bytes;
}

abbrev pub decreases-loop-rest : goal.decreases-loop-rest
decreases-loop-rest l = length l.rest
