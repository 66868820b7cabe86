use Rattle.std.proofs.Common.{◌≡◌, ◌-◌, length}
use Rattle.class_heads.specs.Hierarchy.{superclass_at, superclasses}
use Rattle.class_heads.specs.Searches.{first_found}
use Rattle.class_world.specs.Found.{member_named, wanted_in}
use Rattle.class_world.proofs.Upward.{walk_from}
use Rattle.class_world.proofs.lookups.upward.first_upward.Given as goal

-- what is left of the walk upward decides
abbrev pub invariant-loop-turn : goal.invariant-loop-turn
invariant-loop-turn l = first_found (wanted_in l.heads l.wanted (member_named l.name l.descriptor)) (walk_from (superclass_at l.heads) (length l.heads - l._turn) l.at) ≡ first_found (wanted_in l.heads l.wanted (member_named l.name l.descriptor)) (superclasses l.heads l.class)
