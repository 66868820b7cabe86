use Rattle.std.proofs.Common.{take}
use Rattle.std.specs.List.{AllZip}
use Rattle.code_layout.specs.Numbers.{IsJump}
use Rattle.code_layout.proofs.jumps.jumps.Given as goal

abbrev pub invariant-loop-step : goal.invariant-loop-step
invariant-loop-step l = AllZip (IsJump l.code l.numbers) (take l.step-index l.steps) l.all.items
