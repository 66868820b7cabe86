use Rattle.std.proofs.Common.{sym, ap, ◌∙◌, subst}
use Rattle.std.specs.Option.{option_map}
use Rattle.aj_names.specs.declared.ids.ClassId.{ClassId}
use Rattle.machine_statics.specs.Announcing.{FindsClass}
use Rattle.machine_statics.proofs.Classes.{class_missing, class_is, class_has}
use Rattle.machine_statics.proofs.announcing.find_class.Goals as goal

pub returns-in_err-class : goal.returns-in_err-class
returns-in_err-class c =
    subst (FindsClass c.args.world.now c.args.name.now) (sym c.from_residual.ensures)
    (class_missing c.args.world.now c.args.name.now (sym c.class_named.ensures.place ∙ ap (option_map (λ (x : ClassId). x.0)) c.in_err-class.was))

pub returns-then-has_objects : goal.returns-then-has_objects
returns-then-has_objects c =
    class_has c.args.world.now c.args.name.now c.in_ok-class.class.0 c.head.result.now (sym c.class_named.ensures.place ∙ ap (option_map (λ (x : ClassId). x.0)) c.in_ok-class.was) c.head.ensures
    (sym c.has_objects.ensures ∙ c.if-has_objects.true) c.in_ok-class.ensures.within

pub returns-else-has_objects : goal.returns-else-has_objects
returns-else-has_objects c =
    class_is c.args.world.now c.args.name.now c.in_ok-class.class.0 c.head.result.now (sym c.class_named.ensures.place ∙ ap (option_map (λ (x : ClassId). x.0)) c.in_ok-class.was) c.head.ensures
    ∙ sym c.has_objects.ensures ∙ c.if-has_objects.false
