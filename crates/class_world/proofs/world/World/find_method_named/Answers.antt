use Rattle.std.proofs.Common.{◌≡◌, ℕ, List, arith, sym, ap, ◌∙◌, subst}
use Rattle.std.specs.Option.{option_map}
use Rattle.class_heads.specs.declared.types.ClassHead.{ClassHead}
use Rattle.class_heads.specs.Searches.{find_method}
use Rattle.class_heads.specs.Numbers.{method_counts}
use Rattle.class_world.specs.Found.{member_place, member_named}
use Rattle.class_world.specs.Tables.{Known, IsFirsts}
use Rattle.class_world.proofs.Numbered.{HasNumber}
use Rattle.class_world.proofs.Asked.{numbered_some, method_number}
use Rattle.class_world.proofs.world.World.find_method_named.Goals as goal
use Rattle.class_world.proofs.world.World.find_method_named.Goals.{After-find_method, After-as_slice-3}

searched : (c : After-find_method) → option_map member_place c.find_method.result ≡ find_method c.args.self.now.heads c.args.class.0 (member_named c.args.name.now c.args.descriptor.now)
searched c =
    let inside : c.self.inside.heads.items ≡ c.args.self.now.heads = ap (λ (w : Known). w.heads) c.self.view_is in
    subst (λ (h : List ClassHead). option_map member_place c.find_method.result ≡ find_method h c.args.class.0 (member_named c.args.name.now c.args.descriptor.now)) (c.as_slice.ensures.value ∙ inside) c.find_method.ensures

number : (c : After-as_slice-3) → HasNumber (method_counts c.args.self.now.heads) c.as_slice-3.result.now c.in_ok-found.found
number c =
    let heads = c.args.self.now.heads in
    let inside : c.self.inside.heads.items ≡ heads = ap (λ (w : Known). w.heads) c.self.view_is in
    let firsts = subst (λ (h : List ClassHead). IsFirsts (method_counts h) c.self.inside.first_methods.items) inside c.self.invariant.methods in
    let same = subst (λ (f : List ℕ). IsFirsts (method_counts heads) f) (sym c.as_slice-3.ensures.value) firsts in
    method_number heads c.as_slice-3.result.now c.args.class.0 (member_named c.args.name.now c.args.descriptor.now) c.find_method.result c.in_ok-found.found same
    (searched (goal.at.number_of-requires-clause-class c).After-find_method) c.in_ok-found.was

pub number_of-requires-clause-class : goal.number_of-requires-clause-class
number_of-requires-clause-class c = (number c).class

pub number_of-requires-clause-fits : goal.number_of-requires-clause-fits
number_of-requires-clause-fits c = (number c).fits

pub returns-clause-number : goal.returns-clause-number
returns-clause-number c =
    let heads = c.args.self.now.heads in
    let here = (goal.at.returns-clause-number c).After-as_slice-3 in
    numbered_some (method_counts heads) c.as_slice-3.result.now c.number_of.result c.find_method.result c.in_ok-found.found (find_method heads c.args.class.0 (member_named c.args.name.now c.args.descriptor.now))
    (searched (goal.at.returns-clause-number c).After-find_method) c.in_ok-found.was (number here) c.number_of.ensures

pub returns-clause-within : goal.returns-clause-within
returns-clause-within c = let n = number (goal.at.returns-clause-within c).After-as_slice-3 in omega (arith, n.less, c.number_of.ensures)
