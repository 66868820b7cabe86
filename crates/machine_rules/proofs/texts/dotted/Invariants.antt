use Rattle.std.proofs.Common.{◌≡◌, take}
use Rattle.class_machine.specs.Classes.{dotted}
use Rattle.machine_rules.proofs.texts.dotted.Given as goal

abbrev pub invariant-loop-byte : goal.invariant-loop-byte
invariant-loop-byte l = l.bytes.items ≡ dotted (take l.byte-index l.name)
