use Rattle.std.proofs.Common.{◌≡◌, ◌+◌, take, length}
use Rattle.std.specs.List.{fold}
use Rattle.class_world.specs.Places.{with_new, IsMarked}
use Rattle.class_world.specs.Above.{unmarked}
use Rattle.class_world.proofs.tables.append_new.Given as goal

abbrev pub invariant-loop-place : goal.invariant-loop-place
invariant-loop-place l = record {
  items : l.table.items ≡ fold with_new l.initial.table.items (take l.place-index l.places);
  marked : IsMarked l.seen l.table.items;
  kept : unmarked l.seen + length l.table.items ≡ unmarked l.initial.seen + length l.initial.table.items;
}
