use Rattle.std.proofs.Common.{sym, ◌∙◌, ap}
use Rattle.std.specs.Option.{option_copied}
use Rattle.class_heads.specs.Hierarchy.{TypeName, is_type_below}
use Rattle.machine_fields.specs.Types.{type_seen}
use Rattle.machine_fields.proofs.TypeParts.{holds_there}
use Rattle.machine_fields.proofs.objects.may_hold.Goals as goal

pub returns-in-Some-array_type : goal.returns-in-Some-array_type
returns-in-Some-array_type c distinct fit =
    let heads = c.args.world.now.heads in
    holds_there c.args.world.now distinct c.args.heap.now fit c.args.array c.args.value c.in-Some.at c.in-Reference.held c.in-Some-array_type.class.now c.is_below.result
    c.in-Some.is c.in-Reference.is (sym c.array_type.ensures ∙ ap option_copied c.in-Some-array_type.is) c.requires.value
    (c.is_below.ensures distinct
    ∙ ap (λ (t : TypeName). is_type_below heads t (type_seen c.element_of.result)) (c.type_of.ensures distinct fit)
    ∙ ap (is_type_below heads _) c.element_of.ensures)
