use Rattle.std.proofs.Common.{◌≡◌, take}
use Rattle.std.specs.Prelude.{None, replicate}
use Rattle.std.specs.List.{sum}
use Rattle.class_heads.specs.Numbers.{field_counts}
use Rattle.machine_start.proofs.starting.first_statics.Given as goal

-- those of the classes so far
abbrev pub invariant-loop-class : goal.invariant-loop-class
invariant-loop-class l = l.statics ≡ replicate (sum (take l.class (field_counts l.world.heads))) None
