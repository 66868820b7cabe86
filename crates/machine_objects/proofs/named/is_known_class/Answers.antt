use Rattle.std.proofs.Common.{rules, ◌≡◌, sym, ◌∙◌, ap}
use Rattle.std.specs.Prelude.{is_some}
use Rattle.aj_names.specs.declared.ids.ClassId.{ClassId}
use Rattle.machine_objects.proofs.Found.{some_mapped, known_is, object_there}
use Rattle.machine_objects.proofs.named.is_known_class.Goals as goal

pub returns : goal.returns
returns c =
    let k = c.args.world.now in
    let tested : is_some c.class_of_members.result ≡ c.is_some.result = search rules in
    sym tested ∙ some_mapped (λ (x : ClassId). x.0) c.class_of_members.result ∙ ap is_some c.class_of_members.ensures.place ∙ known_is k (object_there k c.requires) c.args.class.now
