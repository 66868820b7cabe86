use Rattle.std.proofs.Common.{◌≡◌, ◌++◌, take}
use Rattle.std.specs.List.{filter_map}
use Rattle.class_world.specs.Tables.{indexed}
use Rattle.class_world.proofs.supers.push_places.Given as goal

abbrev pub invariant-loop-name : goal.invariant-loop-name
invariant-loop-name l = l.places.items ≡ l.initial.places.items ++ filter_map (indexed l.names) (take l.name-index l.wanted)
