use Rattle.std.proofs.Common.{take}
use Rattle.std.specs.List.{AllZip}
use Rattle.code_layout.specs.Numbers.{IsTarget}
use Rattle.code_layout.proofs.jumps.targets.Given as goal

abbrev pub invariant-loop-offset : goal.invariant-loop-offset
invariant-loop-offset l = AllZip (IsTarget l.numbers l.pc) (take l.offset-index l.offsets) l.to.items
