use Rattle.std.proofs.Common.{ℕ, List, length, codes, subst}
use Rattle.std.specs.List.{flat_map}
use Rattle.class_heads.specs.Hierarchy.{superclasses}
use Rattle.class_machine.specs.Classes.{reference}
use Rattle.class_machine.specs.ClassFiles.{field_constant}
use Rattle.class_machine.specs.World.{value_field}
use Rattle.machine_fields.specs.Positions.{in_place, IsPlace}
use Rattle.machine_fields.proofs.Walks.{at_class}
use Rattle.machine_fields.proofs.positions.value_position.Goals as goal

pub returns : goal.returns
returns c distinct =
    let all = flat_map (in_place c.args.world.now.heads) (superclasses c.args.world.now.heads c.args.class.0) in
    at_class c.args.world.now.heads (length c.args.world.now.files) (field_constant c.args.world.now.files) distinct c.args.class.0 (value_field c.args.boxed) c.place_upward.result c.requires
    (subst (λ (n : List ℕ). IsPlace all (reference n (codes "value") (value_field c.args.boxed).member.descriptor) c.place_upward.result) c.class_of_boxes.ensures
    (subst (λ (d : List ℕ). IsPlace all (reference c.class_of_boxes.result.now (codes "value") d) c.place_upward.result) c.spelling.ensures c.place_upward.ensures))
