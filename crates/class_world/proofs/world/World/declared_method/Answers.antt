use Rattle.std.proofs.Common.{◌≡◌, ℕ, List, arith, sym, ap, ◌∙◌, subst}
use Rattle.class_heads.specs.declared.types.ClassHead.{ClassHead}
use Rattle.class_heads.specs.Searches.{method_in}
use Rattle.class_heads.specs.Numbers.{method_counts}
use Rattle.class_world.specs.declared.lookups.members.Found.{Found}
use Rattle.class_world.specs.Found.{member_named}
use Rattle.class_world.specs.Tables.{Known, IsFirsts}
use Rattle.class_world.proofs.Numbered.{HasNumber, has_number, method_in-stands}
use Rattle.class_world.proofs.world.World.declared_method.Goals as goal
use Rattle.class_world.proofs.world.World.declared_method.Goals.{After-as_slice-2}

number : (c : After-as_slice-2) → HasNumber (method_counts c.args.self.now.heads) c.as_slice-2.result.now (record { class = c.args.class.0; position = c.in_ok-position.position })
number c =
    let heads = c.args.self.now.heads in
    let member = member_named c.args.name.now c.args.descriptor.now in
    let found : Found = record { class = c.args.class.0; position = c.in_ok-position.position } in
    let inside : c.self.inside.heads.items ≡ heads = ap (λ (w : Known). w.heads) c.self.view_is in
    let firsts = subst (λ (h : List ClassHead). IsFirsts (method_counts h) c.self.inside.first_methods.items) inside c.self.invariant.methods in
    let same = subst (λ (f : List ℕ). IsFirsts (method_counts heads) f) (sym c.as_slice-2.ensures.value) firsts in
    let at = subst (λ (h : List ClassHead). c.method_in.result ≡ method_in h member c.args.class.0) (c.as_slice.ensures.value ∙ inside) c.method_in.ensures in
    has_number (method_counts heads) c.as_slice-2.result.now found same (method_in-stands heads member c.args.class.0 c.in_ok-position.position (sym at ∙ c.in_ok-position.was))

pub number_of-requires-clause-fits : goal.number_of-requires-clause-fits
number_of-requires-clause-fits c = (number c).fits

pub returns-clause-within : goal.returns-clause-within
returns-clause-within c = let n = number (goal.at.returns-clause-within c).After-as_slice-2 in omega (arith, n.less, c.number_of.ensures)
