use Rattle.std.proofs.Common.{take}
use Rattle.class_world.specs.Tables.{HasPlaces}
use Rattle.class_world.proofs.names.index_names.Given as goal

abbrev pub invariant-loop-place : goal.invariant-loop-place
invariant-loop-place l = HasPlaces (take l.place l.heads) l.names
