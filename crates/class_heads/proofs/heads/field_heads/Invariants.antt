use Rattle.std.proofs.Common.{◌≡◌, take}
use Rattle.std.specs.Prelude.{map}
use Rattle.class_heads.specs.Heads.{field_head}
use Rattle.class_heads.proofs.heads.field_heads.Given as goal

abbrev pub invariant-loop-member : goal.invariant-loop-member
invariant-loop-member l = l.fields ≡ map (field_head l.pool) (take l.member-index l.members)
