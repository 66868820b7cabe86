use Rattle.std.proofs.Common.{◌≡◌, ◌++◌, take, map}
use Rattle.class_heads.specs.Heads.{head_of}
use Rattle.class_world.proofs.building.heads_of.Given as goal

abbrev pub invariant-loop-class : goal.invariant-loop-class
invariant-loop-class l = l.heads.items ≡ map head_of (take l.class-index l.classes)

abbrev pub invariant-loop-head : goal.invariant-loop-head
invariant-loop-head l = l.heads.items ≡ map head_of l.classes ++ take l.head-index l.library
