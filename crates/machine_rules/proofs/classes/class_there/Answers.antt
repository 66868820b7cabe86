use Rattle.std.proofs.Common.{sym, ap, ◌∙◌}
use Rattle.std.specs.Option.{option_map}
use Rattle.aj_names.specs.declared.ids.ClassId.{ClassId}
use Rattle.class_heads.specs.PlaceLaws.{place-named}
use Rattle.machine_rules.proofs.classes.class_there.Goals as goal

pub returns-clause-name : goal.returns-clause-name
returns-clause-name c =
    place-named c.args.world.now.heads c.args.name.now c.in-Some.class.0
    (sym (sym (ap (option_map (λ (class : ClassId). class.0)) c.in-Some.is) ∙ c.class_named.ensures.place))
