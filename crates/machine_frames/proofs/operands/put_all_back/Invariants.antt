use Rattle.std.proofs.Common.{◌≡◌, drop, reverse}
use Rattle.machine_values.specs.Stacks.{Stack}
use Rattle.machine_frames.specs.Undoing.{TakesAll}
use Rattle.machine_frames.proofs.operands.put_all_back.Given as goal

abbrev pub invariant-loop-held : goal.invariant-loop-held
invariant-loop-held l = record {
  room : l.operands.room ≡ l.initial.operands.room;
  left : (s : Stack) → TakesAll s (reverse l.taken) l.initial.operands → TakesAll s (reverse (drop l.held-index l.taken)) l.operands;
}
