use Rattle.std.proofs.Common.{◌≡◌, ◌≤◌, ◌+◌, ◌-◌, length}
use Rattle.class_format.specs.PoolReading.{entry_of, entries, after}
use Rattle.class_format.proofs.Loop.{IsLeft}
use Rattle.class_format.proofs.pool.entries_of.Given as goal

abbrev pub invariant-loop-index : goal.invariant-loop-index
invariant-loop-index l = record {
  left : IsLeft (entry_of l.count) after (l.index, l.wide) (l.count - l.index) l.entries l.scope l.rest (entries l.count l.scope l.bytes);
  read : length l.entries + 1 ≡ l.index;
  within : l.index ≤ l.count;
}
