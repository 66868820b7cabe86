use Rattle.std.proofs.Common.{take}
use Rattle.code_layout.specs.Blocks.{Ascend}
use Rattle.code_layout.proofs.ready.ascend.Given as goal

abbrev pub invariant-loop-i : goal.invariant-loop-i
invariant-loop-i l = Ascend (take l.i l.keys)
