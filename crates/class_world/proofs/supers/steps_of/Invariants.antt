use Rattle.std.proofs.Common.{◌≡◌, take, map}
use Rattle.class_world.proofs.Named.{named_places}
use Rattle.class_world.proofs.supers.steps_of.Given as goal

abbrev pub invariant-loop-head : goal.invariant-loop-head
invariant-loop-head l = l.steps.items ≡ map (named_places l.names) (take l.head-index l.heads)
