use Rattle.std.proofs.Common.{◌≡◌, [], ◌<◌, length, arith, sym, ap, ◌∙◌, get_or, subst}
use Rattle.std.specs.Prelude.{slice_get, Some}
use Rattle.std.specs.Option.{option_map, option_copied}
use Rattle.std.proofs.lemmas.List.{get_or_read}
use Rattle.std.proofs.lemmas.Option.{slice_get-get_or}
use Rattle.class_heads.specs.Hierarchy.{name_at, supertype_names}
use Rattle.class_world.proofs.Positions.{place_of-within, name_at-slot}
use Rattle.class_world.proofs.Below.{supertype_entry, table_within}
use Rattle.class_world.proofs.lookups.subtypes.supertype.Goals as goal
use Rattle.class_world.proofs.lookups.subtypes.supertype.Goals.{After-get}

class_within : (c : After-get) → c.in_ok-class.class < length c.args.supers.now
class_within c =
    let within = place_of-within c.args.heads.now c.args.low.now c.in_ok-class.class (sym c.place_of.ensures ∙ c.in_ok-class.was) in
    omega (arith, c.requires.supers.len)

-- the table that is read is the class's
read : (c : After-get) → c.index-supers-class.result ≡ get_or c.args.supers.now c.in_ok-class.class []
read c = get_or_read c.args.supers.now c.in_ok-class.class c.index-supers-class.result (class_within c) c.index-supers-class.is []

entry : (c : After-get) → option_map (name_at c.args.heads.now) (option_copied c.get.result) ≡ slice_get (supertype_names c.args.heads.now c.args.low.now) c.args.index
entry c =
    let within = place_of-within c.args.heads.now c.args.low.now c.in_ok-class.class (sym c.place_of.ensures ∙ c.in_ok-class.was) in
    ap (option_map (name_at c.args.heads.now)) c.get.ensures.value
    ∙ supertype_entry c.args.heads.now c.args.low.now c.in_ok-class.class c.args.index c.index-supers-class.result (sym c.is_array.ensures ∙ c.if-is_array.false) (sym c.place_of.ensures ∙ c.in_ok-class.was)
    (read c ∙ c.requires.supers.each c.in_ok-class.class within)

pub bounds-supers-class : goal.bounds-supers-class
bounds-supers-class c =
    let within = place_of-within c.args.heads.now c.args.low.now c.in_ok-class.class (sym c.place_of.ensures ∙ c.in_ok-class.was) in
    omega (arith, c.requires.supers.len)

pub returns-in_err-place : goal.returns-in_err-place
returns-in_err-place c =
    ap option_copied c.from_residual-in_err-place.ensures
    ∙ ap (λ o. option_map (name_at c.args.heads.now) (option_copied o)) (sym c.in_err-place.was)
    ∙ entry (goal.at.returns-in_err-place c).After-get

pub bounds-heads-place : goal.bounds-heads-place
bounds-heads-place c =
    let here = (goal.at.bounds-heads-place c).After-get in
    let found : slice_get c.index-supers-class.result c.args.index ≡ Some c.in_ok-place.place.now = sym c.get.ensures.value ∙ ap option_copied c.in_ok-place.was in
    table_within c.args.heads.now c.args.supers.now c.in_ok-class.class c.args.index c.in_ok-place.place.now c.requires.supers (class_within here)
    (subst (λ table. slice_get table c.args.index ≡ Some c.in_ok-place.place.now) (read here) found)

pub returns : goal.returns
returns c =
    let here = (goal.at.returns c).After-get in
    let heads = c.args.heads.now in
    let place = c.in_ok-place.place.now in
    let found : slice_get c.index-supers-class.result c.args.index ≡ Some place = sym c.get.ensures.value ∙ ap option_copied c.in_ok-place.was in
    let within : place < length heads = table_within heads c.args.supers.now c.in_ok-class.class c.args.index place c.requires.supers (class_within here) (subst (λ table. slice_get table c.args.index ≡ Some place) (read here) found) in
    let head = get_or heads place c.index-heads-place.result in
    let named : name_at heads place ≡ head.name = name_at-slot heads place head (slice_get-get_or heads place c.index-heads-place.result within) in
    ap Some (sym named) ∙ ap (λ o. option_map (name_at heads) (option_copied o)) (sym c.in_ok-place.was) ∙ entry here
