use Rattle.std.proofs.Common.{◌≡◌, ℕ, suc, ◌+◌, ◌-◌, ◌++◌, length, ◌∙◌, subst, arith}
use Rattle.std.specs.Prelude.{Option, Some}
use Rattle.std.specs.List.{flat_map}
use Rattle.std.specs.Option.{option_map}
use Rattle.aj_names.specs.declared.ids.ClassId.{ClassId}
use Rattle.class_heads.specs.Hierarchy.{superclasses}
use Rattle.machine_fields.specs.Positions.{in_place}
use Rattle.machine_fields.specs.NewObjects.{held_by, asked_by}
use Rattle.machine_fields.proofs.Walks.{rest_of, at_head}
use Rattle.machine_fields.proofs.NewOnes.{further_up}
use Rattle.machine_fields.proofs.new_objects.field_types.Goals as goal

pub loop-turn-preserved : goal.loop-turn-preserved
loop-turn-preserved c =
    let heads = c.args.world.now.heads in
    let all = asked_by (flat_map (in_place heads) (superclasses heads c.args.class.0)) in
    let held = held_by c.loop-turn.types.items in
    let left : ℕ = length heads - (c.loop-turn._turn + 1) in
    let more : length heads - c.loop-turn._turn ≡ suc left = omega arith in
    let here = subst (λ (n : ℕ). held ++ asked_by (rest_of heads n (Some c.in-Some.here.0)) ≡ all) more
    (subst (λ (at : Option ClassId). held ++ asked_by (rest_of heads (length heads - c.loop-turn._turn) (option_map (λ (class : ClassId). class.0) at)) ≡ all) c.in-Some.is c.loop-turn.invariant.rest) in
    let next = option_map (λ (class : ClassId). class.0) c.superclass_of-at.result in
    record {
      within = c.superclass_of-at.ensures.within;
      rest = further_up heads held (held_by c.push_head.new.types.items) all c.in-Some.here.0 left c.head-head.result.now next c.head-head.ensures
          (c.superclass_of-at.ensures.places ∙ at_head heads c.in-Some.here.0 c.head-head.result.now c.head-head.ensures) here c.in_ok-push_head.ensures;
    }
