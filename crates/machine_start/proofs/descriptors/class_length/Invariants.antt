use Rattle.std.proofs.Common.{◌≡◌, ◌+◌, drop}
use Rattle.machine_code.specs.TypeLengths.{class_length}
use Rattle.machine_start.proofs.descriptors.class_length.Given as goal

-- the bytes before, and what is left
abbrev pub invariant-loop-i : goal.invariant-loop-i
invariant-loop-i l = l.i + class_length (drop l.i l.bytes) ≡ class_length l.bytes
