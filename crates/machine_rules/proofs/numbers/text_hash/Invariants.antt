use Rattle.std.proofs.Common.{◌≡◌, ◌^◌, ◌%◌, take}
use Rattle.class_machine.specs.LibraryCalls.{text_hash}
use Rattle.machine_rules.proofs.numbers.text_hash.Given as goal

abbrev pub invariant-loop-unit : goal.invariant-loop-unit
invariant-loop-unit l = l.hash ≡ text_hash (take l.unit-index l.units) % 2 ^ 32
