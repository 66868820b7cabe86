use Rattle.std.proofs.Common.{◌≡◌, take, true}
use Rattle.std.specs.List.{list_all}
use Rattle.class_world.specs.Places.{is_filled}
use Rattle.class_world.proofs.tables.is_ready.Given as goal

abbrev pub invariant-loop-place : goal.invariant-loop-place
invariant-loop-place l = list_all (is_filled l.tables) (take l.place-index l.places) ≡ true
