use Rattle.std.proofs.Common.{◌<◌, List, length, sym, ap, ◌∙◌, subst}
use Rattle.class_heads.specs.declared.types.ClassHead.{ClassHead}
use Rattle.class_world.specs.Tables.{Known}
use Rattle.class_world.proofs.Positions.{place_of-within}
use Rattle.class_world.proofs.world.World.class_named.Goals as goal

pub returns-clause-within : goal.returns-clause-within
returns-clause-within c =
    let inside = c.as_slice.ensures.value ∙ ap (λ (w : Known). w.heads) c.self.view_is in
    let within = place_of-within c.as_slice.result.now c.args.name.now c.in_ok-place.place (sym c.place_of.ensures ∙ c.in_ok-place.was) in
    subst (λ (heads : List ClassHead). c.in_ok-place.place < length heads) inside within
