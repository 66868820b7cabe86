use Rattle.std.proofs.Common.{◌≡◌, take}
use Rattle.run_lines.specs.Names.{slashed}
use Rattle.run_lines.proofs.names.slashed.Given as goal

abbrev pub invariant-loop-byte : goal.invariant-loop-byte
invariant-loop-byte l = l.bytes.items ≡ slashed (take l.byte-index l.name)
