use Rattle.std.proofs.Common.{◌≡◌, ◌++◌, ◌-◌, ◌<◌, length}
use Rattle.std.specs.Prelude.{IfSome}
use Rattle.std.specs.List.{flat_map}
use Rattle.std.specs.Option.{option_map}
use Rattle.class_heads.specs.Hierarchy.{superclasses}
use Rattle.machine_fields.specs.Positions.{in_place}
use Rattle.machine_fields.specs.NewObjects.{held_by, asked_by}
use Rattle.machine_fields.proofs.Walks.{rest_of}
use Rattle.machine_fields.proofs.new_objects.field_types.Given as goal

abbrev pub invariant-loop-turn : goal.invariant-loop-turn
invariant-loop-turn l = record {
  within : IfSome l.at (λ class. class.0 < length l.world.heads);
  rest : held_by l.types.items ++ asked_by (rest_of l.world.heads (length l.world.heads - l._turn) (option_map (λ class. class.0) l.at))
      ≡ asked_by (flat_map (in_place l.world.heads) (superclasses l.world.heads l.fn.class.0));
}
