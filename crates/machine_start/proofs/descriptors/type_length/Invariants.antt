use Rattle.std.proofs.Common.{◌≡◌, ◌+◌, drop}
use Rattle.machine_code.specs.TypeLengths.{type_length}
use Rattle.machine_start.proofs.descriptors.type_length.Given as goal

-- the bytes before, and what is left
abbrev pub invariant-loop-i : goal.invariant-loop-i
invariant-loop-i l = l.i + type_length (drop l.i l.bytes) ≡ type_length l.bytes
