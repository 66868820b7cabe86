use Rattle.std.proofs.Common.{◌≡◌, ℕ, List, arith, sym, ap, ◌∙◌, subst}
use Rattle.std.specs.Option.{option_map}
use Rattle.class_heads.specs.declared.types.ClassHead.{ClassHead}
use Rattle.class_heads.specs.Searches.{MemberPlace, select}
use Rattle.class_heads.specs.Numbers.{IsNumbered, method_counts}
use Rattle.class_world.specs.Found.{member_place}
use Rattle.class_world.specs.Tables.{Known, IsFirsts}
use Rattle.aj_names.specs.declared.ids.MethodId.{MethodId}
use Rattle.class_world.proofs.Numbered.{HasNumber, numbered_from_standing, one_numbered}
use Rattle.class_world.proofs.Asked.{numbered_none, numbered_some, selected_number}
use Rattle.class_world.proofs.world.World.select.Goals as goal
use Rattle.class_world.proofs.world.World.select.Goals.{After-select, After-as_slice-4}

-- the member that was read is the one of the number
own : (c : After-select) → IsNumbered (method_counts c.args.self.now.heads) c.args.method.0 (member_place c.member_of-found.result)
own c =
    let heads = c.args.self.now.heads in
    let inside : c.self.inside.heads.items ≡ heads = ap (λ (w : Known). w.heads) c.self.view_is in
    let firsts = subst (λ (h : List ClassHead). IsFirsts (method_counts h) c.self.inside.first_methods.items) inside c.self.invariant.methods in
    let same = subst (λ (f : List ℕ). IsFirsts (method_counts heads) f) (sym c.as_slice.ensures.value) firsts in
    numbered_from_standing (method_counts heads) c.as_slice.result.now c.args.method.0 c.member_of-found.result same c.requires.method c.member_of-found.ensures

selected_own : (c : After-select) → option_map member_place c.select.result ≡ select c.args.self.now.heads c.args.runtime.0 (member_place c.member_of-found.result)
selected_own c =
    let inside : c.self.inside.heads.items ≡ c.args.self.now.heads = ap (λ (w : Known). w.heads) c.self.view_is in
    subst (λ (h : List ClassHead). option_map member_place c.select.result ≡ select h c.args.runtime.0 (member_place c.member_of-found.result)) (c.as_slice-2.ensures.value ∙ inside) c.select.ensures

searched : (c : After-select) (found : MemberPlace) → IsNumbered (method_counts c.args.self.now.heads) c.args.method.0 found → option_map member_place c.select.result ≡ select c.args.self.now.heads c.args.runtime.0 found
searched c found n =
    let same = one_numbered (method_counts c.args.self.now.heads) c.args.method.0 (member_place c.member_of-found.result) found (own c) n in
    selected_own c ∙ ap (select c.args.self.now.heads c.args.runtime.0) same

number : (c : After-as_slice-4) → HasNumber (method_counts c.args.self.now.heads) c.as_slice-4.result.now c.in_ok-selected.selected
number c =
    let heads = c.args.self.now.heads in
    let here = (goal.at.number_of-requires-clause-class c).After-select in
    let inside : c.self.inside.heads.items ≡ heads = ap (λ (w : Known). w.heads) c.self.view_is in
    let firsts = subst (λ (h : List ClassHead). IsFirsts (method_counts h) c.self.inside.first_methods.items) inside c.self.invariant.methods in
    let same = subst (λ (f : List ℕ). IsFirsts (method_counts heads) f) (sym c.as_slice-4.ensures.value) firsts in
    selected_number heads c.as_slice-4.result.now c.args.runtime.0 c.args.method.0 (member_place c.member_of-found.result) c.select.result c.in_ok-selected.selected same (own here) (selected_own here) c.in_ok-selected.was

pub returns-in_err-selected-clause-number : goal.returns-in_err-selected-clause-number
returns-in_err-selected-clause-number c = λ found n.
    let heads = c.args.self.now.heads in
    ap (option_map (λ (m : MethodId). m.0)) c.from_residual.ensures
    ∙ numbered_none (method_counts heads) c.select.result (select heads c.args.runtime.0 found) (searched (goal.at.returns-in_err-selected-clause-number c).After-select found n) c.in_err-selected.was

pub number_of-requires-clause-class : goal.number_of-requires-clause-class
number_of-requires-clause-class c = (number c).class

pub number_of-requires-clause-fits : goal.number_of-requires-clause-fits
number_of-requires-clause-fits c = (number c).fits

pub returns-clause-number : goal.returns-clause-number
returns-clause-number c = λ found n.
    let heads = c.args.self.now.heads in
    let here = (goal.at.returns-clause-number c).After-as_slice-4 in
    numbered_some (method_counts heads) c.as_slice-4.result.now c.number_of.result c.select.result c.in_ok-selected.selected (select heads c.args.runtime.0 found)
    (searched (goal.at.returns-clause-number c).After-select found n) c.in_ok-selected.was (number here) c.number_of.ensures

pub returns-clause-within : goal.returns-clause-within
returns-clause-within c = let n = number (goal.at.returns-clause-within c).After-as_slice-4 in omega (arith, n.less, c.number_of.ensures)
