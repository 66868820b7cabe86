use Rattle.std.proofs.Common.{◌≡◌, ℕ, List, arith, sym, ap, ◌∙◌, subst}
use Rattle.std.specs.Option.{option_map}
use Rattle.class_heads.specs.declared.types.ClassHead.{ClassHead}
use Rattle.class_heads.specs.Searches.{first_found, field_in, find_field}
use Rattle.class_heads.specs.Numbers.{field_counts}
use Rattle.class_world.specs.Found.{member_place, member_named}
use Rattle.class_world.specs.Tables.{Known, IsSupers, IsFirsts}
use Rattle.aj_names.specs.declared.ids.FieldId.{FieldId}
use Rattle.class_world.proofs.Numbered.{HasNumber, field_by_table}
use Rattle.class_world.proofs.Asked.{read_table, numbered_none, numbered_some, field_number}
use Rattle.class_world.proofs.world.World.find_field_named.Goals as goal
use Rattle.class_world.proofs.world.World.find_field_named.Goals.{After-first_field, After-as_slice-2}

-- the search by the table is the search from the class
searched : (c : After-first_field) → option_map member_place c.first_field.result ≡ find_field c.args.self.now.heads c.args.class.0 (member_named c.args.name.now c.args.descriptor.now)
searched c =
    let heads = c.args.self.now.heads in
    let inside : c.self.inside.heads.items ≡ heads = ap (λ (w : Known). w.heads) c.self.view_is in
    let supers = subst (λ (h : List ClassHead). IsSupers h c.self.inside.supers.items) inside c.self.invariant.supers in
    let read = c.as_slice-table.ensures ∙ read_table heads c.self.inside.supers.items c.args.class.0 c.index.result.now supers c.requires c.index.ensures in
    let found = subst (λ (h : List ClassHead). option_map member_place c.first_field.result ≡ first_found (field_in h (member_named c.args.name.now c.args.descriptor.now)) c.as_slice-table.result.now) (c.as_slice.ensures.value ∙ inside) c.first_field.ensures in
    field_by_table heads c.args.class.0 (member_named c.args.name.now c.args.descriptor.now) c.as_slice-table.result.now c.first_field.result read found

number : (c : After-as_slice-2) → HasNumber (field_counts c.args.self.now.heads) c.as_slice-2.result.now c.in_ok-found.found
number c =
    let heads = c.args.self.now.heads in
    let inside : c.self.inside.heads.items ≡ heads = ap (λ (w : Known). w.heads) c.self.view_is in
    let firsts = subst (λ (h : List ClassHead). IsFirsts (field_counts h) c.self.inside.first_fields.items) inside c.self.invariant.fields in
    let same = subst (λ (f : List ℕ). IsFirsts (field_counts heads) f) (sym c.as_slice-2.ensures.value) firsts in
    field_number heads c.as_slice-2.result.now c.args.class.0 (member_named c.args.name.now c.args.descriptor.now) c.first_field.result c.in_ok-found.found same
    (searched (goal.at.number_of-requires-clause-class c).After-first_field) c.in_ok-found.was

pub returns-in_err-found-clause-number : goal.returns-in_err-found-clause-number
returns-in_err-found-clause-number c =
    let heads = c.args.self.now.heads in
    ap (option_map (λ (field : FieldId). field.0)) c.from_residual.ensures
    ∙ numbered_none (field_counts heads) c.first_field.result (find_field heads c.args.class.0 (member_named c.args.name.now c.args.descriptor.now)) (searched (goal.at.returns-in_err-found-clause-number c).After-first_field) c.in_err-found.was

pub number_of-requires-clause-class : goal.number_of-requires-clause-class
number_of-requires-clause-class c = (number c).class

pub number_of-requires-clause-fits : goal.number_of-requires-clause-fits
number_of-requires-clause-fits c = (number c).fits

pub returns-clause-number : goal.returns-clause-number
returns-clause-number c =
    let heads = c.args.self.now.heads in
    let here = (goal.at.returns-clause-number c).After-as_slice-2 in
    numbered_some (field_counts heads) c.as_slice-2.result.now c.number_of.result c.first_field.result c.in_ok-found.found (find_field heads c.args.class.0 (member_named c.args.name.now c.args.descriptor.now))
    (searched (goal.at.returns-clause-number c).After-first_field) c.in_ok-found.was (number here) c.number_of.ensures

pub returns-clause-within : goal.returns-clause-within
returns-clause-within c = let n = number (goal.at.returns-clause-within c).After-as_slice-2 in omega (arith, n.less, c.number_of.ensures)
