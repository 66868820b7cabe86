use Rattle.std.proofs.Common.{◌≡◌, ◌∷◌, [], take}
use Rattle.std.specs.List.{fold, flat_map}
use Rattle.class_world.specs.Places.{with_new, IsMarked, table_at}
use Rattle.class_world.proofs.tables.join.Given as goal

abbrev pub invariant-loop-step : goal.invariant-loop-step
invariant-loop-step l = record {
  items : l.table.items ≡ fold with_new (l.place ∷ []) (flat_map (table_at l.tables) (take l.step-index l.steps));
  marked : IsMarked l.seen l.table.items;
}
