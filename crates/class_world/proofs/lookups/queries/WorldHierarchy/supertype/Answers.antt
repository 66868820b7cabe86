use Rattle.std.proofs.Common.{◌≡◌, ℕ, List, ap, ◌∙◌, subst}
use Rattle.std.specs.Prelude.{slice_get}
use Rattle.std.specs.Option.{option_copied}
use Rattle.class_heads.specs.declared.types.ClassHead.{ClassHead}
use Rattle.class_heads.specs.Hierarchy.{supertype_names}
use Rattle.class_world.specs.Tables.{Known}
use Rattle.class_world.proofs.Below.{unknown_none}
use Rattle.class_world.proofs.lookups.queries.WorldHierarchy.supertype.Goals as goal

pub returns-clause-unknown : goal.returns-clause-unknown
returns-clause-unknown c =
    let same : c.as_slice.result.now ≡ c.args.self.now.heads = c.as_slice.ensures.value ∙ ap (λ (w : Known). w.heads) c.self.view_is in
    let entry = subst (λ (heads : List ClassHead). option_copied c.supertype.result ≡ slice_get (supertype_names heads c.as_slice-4.result.now) c.args.index) same c.supertype.ensures in
    unknown_none c.args.self.now.heads c.args.low.now c.args.index c.supertype.result
    (subst (λ (low : List ℕ). option_copied c.supertype.result ≡ slice_get (supertype_names c.args.self.now.heads low) c.args.index) c.as_slice-4.ensures entry)
