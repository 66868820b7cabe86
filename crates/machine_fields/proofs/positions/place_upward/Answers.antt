use Rattle.std.proofs.Common.{◌≡◌, ℕ, suc, ◌+◌, ◌-◌, length, sym, ◌∙◌, subst, arith}
use Rattle.std.specs.Prelude.{Option, Some}
use Rattle.std.specs.List.{flat_map}
use Rattle.std.specs.Option.{option_map}
use Rattle.aj_names.specs.declared.ids.ClassId.{ClassId}
use Rattle.class_heads.specs.Hierarchy.{superclasses}
use Rattle.class_machine.specs.Classes.{reference}
use Rattle.machine_fields.specs.Positions.{in_head, in_place}
use Rattle.machine_fields.proofs.Walks.{rest_of, IsRest, rest_found, rest_next, rest_far_next, sum_place, at_head}
use Rattle.machine_fields.proofs.positions.place_upward.Goals as goal

pub returns-in-Some-place_in : goal.returns-in-Some-place_in
returns-in-Some-place_in c =
    let heads = c.args.world.now.heads in
    let all = flat_map (in_place heads) (superclasses heads c.args.class.0) in
    let r = reference c.args.declaring.now c.args.name.now c.args.descriptor.now in
    let left : ℕ = length heads - (c.loop-turn._turn + 1) in
    let more : length heads - c.loop-turn._turn ≡ suc left = omega arith in
    let here = subst (λ (n : ℕ). IsRest all r c.loop-turn.before (rest_of heads n (Some c.in-Some.here.0))) more
    (subst (λ (at : Option ClassId). IsRest all r c.loop-turn.before (rest_of heads (length heads - c.loop-turn._turn) (option_map (λ class. class.0) at))) c.in-Some.is c.loop-turn.invariant.rest) in
    sum_place all r (c.loop-turn.before + c.in-Some-place_in.place) c.sum_of.result
    (rest_found heads all r c.loop-turn.before left c.in-Some.here.0 c.head-head.result.now c.head-head.ensures c.in-Some-place_in.place here (sym c.place_in.ensures ∙ c.in-Some-place_in.is)) c.sum_of.ensures

pub returns-in_default-checked_add : goal.returns-in_default-checked_add
returns-in_default-checked_add c =
    let heads = c.args.world.now.heads in
    let all = flat_map (in_place heads) (superclasses heads c.args.class.0) in
    let r = reference c.args.declaring.now c.args.name.now c.args.descriptor.now in
    let left : ℕ = length heads - (c.loop-turn._turn + 1) in
    let more : length heads - c.loop-turn._turn ≡ suc left = omega arith in
    let here = subst (λ (n : ℕ). IsRest all r c.loop-turn.before (rest_of heads n (Some c.in-Some.here.0))) more
    (subst (λ (at : Option ClassId). IsRest all r c.loop-turn.before (rest_of heads (length heads - c.loop-turn._turn) (option_map (λ class. class.0) at))) c.in-Some.is c.loop-turn.invariant.rest) in
    let size = c.count_in.ensures in
    let full = c.in_default-checked_add.ensures in
    rest_far_next heads all r c.loop-turn.before left c.in-Some.here.0 c.head-head.result.now c.head-head.ensures here (sym c.place_in.ensures ∙ c.in_default-place_in.is) (omega (arith, full, size))

pub loop-turn-preserved : goal.loop-turn-preserved
loop-turn-preserved c =
    let heads = c.args.world.now.heads in
    let all = flat_map (in_place heads) (superclasses heads c.args.class.0) in
    let r = reference c.args.declaring.now c.args.name.now c.args.descriptor.now in
    let left : ℕ = length heads - (c.loop-turn._turn + 1) in
    let more : length heads - c.loop-turn._turn ≡ suc left = omega arith in
    let here = subst (λ (n : ℕ). IsRest all r c.loop-turn.before (rest_of heads n (Some c.in-Some.here.0))) more
    (subst (λ (at : Option ClassId). IsRest all r c.loop-turn.before (rest_of heads (length heads - c.loop-turn._turn) (option_map (λ class. class.0) at))) c.in-Some.is c.loop-turn.invariant.rest) in
    let next = option_map (λ (class : ClassId). class.0) c.superclass_of-at.result in
    let sum : c.in-Some-checked_add.sum ≡ c.loop-turn.before + length (in_head c.head-head.result.now) = let size = c.count_in.ensures in omega (arith, c.in-Some-checked_add.ensures) in
    record {
      within = c.superclass_of-at.ensures.within;
      rest = subst (λ (n : ℕ). IsRest all r n (rest_of heads left next)) (sym sum)
          (rest_next heads all r c.loop-turn.before left c.in-Some.here.0 c.head-head.result.now c.head-head.ensures next (c.superclass_of-at.ensures.places ∙ at_head heads c.in-Some.here.0 c.head-head.result.now c.head-head.ensures) here (sym c.place_in.ensures ∙ c.in_default-place_in.is));
    }
