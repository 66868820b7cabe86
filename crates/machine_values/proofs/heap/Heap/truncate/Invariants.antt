use Rattle.std.proofs.Common.{◌≡◌, ◌≤◌, min, length, take}
use Rattle.machine_values.proofs.heap.Heap.truncate.Given as goal

abbrev pub invariant-loop-size : goal.invariant-loop-size
invariant-loop-size l = record {
  size : l.size ≡ length l.self.names;
  whole : l.size ≡ length l.self.contents;
  names : l.self.names ≡ take l.size l.initial.self.names;
  contents : l.self.contents ≡ take l.size l.initial.self.contents;
  most : min l.count (length l.initial.self.names) ≤ l.size;
  least : l.size ≤ length l.initial.self.names;
  first : length l.initial.self.contents ≡ length l.initial.self.names;
}

abbrev pub decreases-loop-size : goal.decreases-loop-size
decreases-loop-size l = l.size
