use Rattle.std.proofs.Common.{◌≡◌, take}
use Rattle.std.specs.Prelude.{map}
use Rattle.std.specs.List.{flat_map}
use Rattle.class_heads.specs.Heads.{class_name_at, thrown}
use Rattle.class_heads.proofs.heads.exceptions.Given as goal

abbrev pub invariant-loop-attribute : goal.invariant-loop-attribute
invariant-loop-attribute l = l.names ≡ map (class_name_at l.pool) (flat_map (λ a. thrown a.content) (take l.attribute-index l.attributes))
