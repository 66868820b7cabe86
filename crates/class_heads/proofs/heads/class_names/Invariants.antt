use Rattle.std.proofs.Common.{◌≡◌, take}
use Rattle.std.specs.Prelude.{map}
use Rattle.class_heads.specs.Heads.{class_name_at}
use Rattle.class_heads.proofs.heads.class_names.Given as goal

abbrev pub invariant-loop-index : goal.invariant-loop-index
invariant-loop-index l = l.names ≡ map (class_name_at l.pool) (take l.index-index l.indices)
