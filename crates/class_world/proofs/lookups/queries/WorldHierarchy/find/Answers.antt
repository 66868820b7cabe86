use Rattle.std.proofs.Common.{◌≡◌, List, ap, ◌∙◌, subst}
use Rattle.std.specs.List.{Contains}
use Rattle.std.specs.Option.{IfSome}
use Rattle.class_heads.specs.declared.types.ClassHead.{ClassHead}
use Rattle.class_heads.specs.Hierarchy.{class_names}
use Rattle.class_world.specs.Tables.{Known}
use Rattle.class_world.proofs.lookups.queries.WorldHierarchy.find.Goals as goal

pub returns-clause-known : goal.returns-clause-known
returns-clause-known c =
    let same : c.as_slice.result.now ≡ c.args.self.now.heads = c.as_slice.ensures.value ∙ ap (λ (w : Known). w.heads) c.self.view_is in
    subst (λ (heads : List ClassHead). IfSome c.find_named.result (λ class. Contains (class_names heads) class.now)) same c.find_named.ensures.known
