use Rattle.std.proofs.Common.{sym, ap, ◌∙◌}
use Rattle.std.specs.Option.{option_map}
use Rattle.class_heads.specs.Hierarchy.{superclasses, order}
use Rattle.class_heads.specs.Searches.{method_in, is_interface_at}
use Rattle.std.specs.List.{filter}
use Rattle.class_world.specs.Found.{member_place, member_named}
use Rattle.class_world.proofs.Upward.{found_in_first, found_in_second}
use Rattle.class_world.proofs.lookups.upward.find_method.Goals as goal

pub returns-in-Some : goal.returns-in-Some
returns-in-Some c =
    let heads = c.args.heads.now in
    found_in_first (method_in heads (member_named c.args.name.now c.args.descriptor.now)) (superclasses heads c.args.class) (filter (is_interface_at heads) (order heads c.args.class)) (member_place c.in-Some.found)
    (ap (option_map member_place) (sym c.in-Some.is) ∙ c.first_upward.ensures)

pub returns-in-None : goal.returns-in-None
returns-in-None c =
    let heads = c.args.heads.now in
    found_in_second (is_interface_at heads) (method_in heads (member_named c.args.name.now c.args.descriptor.now)) (superclasses heads c.args.class) (order heads c.args.class) c.args.supertypes.now (option_map member_place c.first_in_interfaces.result)
    (ap (option_map member_place) (sym c.in-None.is) ∙ c.first_upward.ensures) c.requires.supertypes c.first_in_interfaces.ensures
