use Rattle.std.proofs.Common.{◌≡◌, drop, map, reverse}
use Rattle.machine_values.specs.declared.values.Value.TheVariants.{Int}
use Rattle.machine_values.specs.Stacks.{Stack}
use Rattle.machine_frames.specs.Undoing.{TakesAll}
use Rattle.machine_frames.proofs.undoing.put_ints_back.Given as goal

abbrev pub invariant-loop-size : goal.invariant-loop-size
invariant-loop-size l = record {
  room : l.operands.room ≡ l.initial.operands.room;
  left : (s : Stack) → TakesAll s (reverse (map Int l.taken)) l.initial.operands → TakesAll s (reverse (map Int (drop l.size-index l.taken))) l.operands;
}
