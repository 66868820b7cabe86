use Rattle.class_world.specs.Places.{AreAll}
use Rattle.class_world.proofs.tables.all_places.Given as goal

abbrev pub invariant-loop-place : goal.invariant-loop-place
invariant-loop-place l = AreAll l.place l.places.items
