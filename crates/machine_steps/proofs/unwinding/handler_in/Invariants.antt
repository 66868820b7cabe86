use Rattle.std.proofs.Common.{◌-◌, length}
use Rattle.machine_steps.specs.Unwinding.{DecidesFrom}
use Rattle.machine_steps.proofs.unwinding.handler_in.Given as goal

abbrev pub invariant-entries : goal.invariant-entries
invariant-entries l = DecidesFrom l.world l.class.0 l.code l.frame.pc l.from

abbrev pub decreases-entries : goal.decreases-entries
decreases-entries l = length l.code.code.now.entries - l.from
