use Rattle.std.proofs.Common.{Bool, sym, ap, ◌∙◌}
use Rattle.std.specs.Prelude.{◌||◌, not}
use Rattle.class_heads.specs.Hierarchy.{name_at}
use Rattle.machine_invocations.specs.Methods.{classes_in}
use Rattle.machine_invocations.proofs.selection.is_itself.Goals as goal

pub returns-then-is_constructor : goal.returns-then-is_constructor
returns-then-is_constructor c m distinct sees =
    sym (ap (λ (b : Bool). b || (m.is_private || not ((classes_in c.args.world.now).is_super (name_at c.args.world.now.heads c.args.current.0)))) (sym (c.is_constructor.ensures m sees) ∙ c.if-is_constructor.true))

pub returns-then-is_private : goal.returns-then-is_private
returns-then-is_private c m distinct sees =
    let super = (classes_in c.args.world.now).is_super (name_at c.args.world.now.heads c.args.current.0) in
    sym (ap (λ (b : Bool). b || (m.is_private || not super)) (sym (c.is_constructor.ensures m sees) ∙ c.if-is_constructor.false) ∙ ap (λ (b : Bool). b || not super) (sym (c.is_private.ensures m sees) ∙ c.if-is_private.true))

pub returns : goal.returns
returns c m distinct sees =
    let super = (classes_in c.args.world.now).is_super (name_at c.args.world.now.heads c.args.current.0) in
    ap not (c.is_super.ensures distinct)
    ∙ sym (ap (λ (b : Bool). b || (m.is_private || not super)) (sym (c.is_constructor.ensures m sees) ∙ c.if-is_constructor.false) ∙ ap (λ (b : Bool). b || not super) (sym (c.is_private.ensures m sees) ∙ c.if-is_private.false))
