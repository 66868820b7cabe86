use Rattle.std.proofs.Common.{sym, ◌∙◌, ap}
use Rattle.std.specs.Option.{option_map}
use Rattle.aj_names.specs.declared.ids.ClassId.{ClassId}
use Rattle.machine_fields.proofs.TypeParts.{below_named}
use Rattle.machine_fields.proofs.types.is_class_below.Goals as goal

pub returns-in-Some-Some : goal.returns-in-Some-Some
returns-in-Some-Some c distinct =
    c.is_subtype.ensures
    ∙ below_named c.args.world.now.heads distinct c.args.low.now c.args.high.now c.in-Some-Some.low.0 c.in-Some-Some.high.0 c.head.result.now c.head-in-Some-Some.result.now
    (sym c.class_named.ensures.place ∙ ap (option_map (λ (class : ClassId). class.0)) c.in-Some-Some.is-0)
    (sym c.class_named-2.ensures.place ∙ ap (option_map (λ (class : ClassId). class.0)) c.in-Some-Some.is-1)
    c.head.ensures c.head-in-Some-Some.ensures
