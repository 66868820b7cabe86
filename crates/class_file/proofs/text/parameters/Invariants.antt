use Rattle.std.proofs.Common.{◌≡◌, ◌≤◌, ◌-◌, length}
use Rattle.class_file.specs.Text.{parameters}
use Rattle.class_file.proofs.text.parameters.Given as goal

abbrev pub invariant-loop : goal.invariant-loop
invariant-loop l = (parameters (length l.bytes - l.counter) l.slots l.rest ≡ parameters (length l.bytes) l.before l.bytes) × (l.slots ≤ 255)
