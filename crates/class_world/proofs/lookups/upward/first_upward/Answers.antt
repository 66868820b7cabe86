use Rattle.std.proofs.Common.{◌≡◌, ℕ, suc, ◌+◌, ◌-◌, length, arith, sym, ◌∙◌, subst}
use Rattle.std.specs.Prelude.{Option, Some}
use Rattle.class_heads.specs.Hierarchy.{superclass_at}
use Rattle.class_heads.specs.Searches.{first_found}
use Rattle.class_world.specs.Found.{member_named, wanted_in}
use Rattle.class_world.proofs.Upward.{walk_from, up_found, up_next, up_none}
use Rattle.class_world.proofs.lookups.upward.first_upward.Goals as goal

pub returns-in_default : goal.returns-in_default
returns-in_default c =
    let search = wanted_in c.args.heads.now c.args.wanted (member_named c.args.name.now c.args.descriptor.now) in
    let steps = superclass_at c.args.heads.now in
    let most = length c.args.heads.now - c.loop-turn._turn in
    subst (λ (at : Option ℕ). first_found search (walk_from steps most at) ≡ first_found search (walk_from steps (length c.args.heads.now) (Some c.args.class))) c.in_default.is c.loop-turn.invariant

pub returns-in-Some-wanted_in : goal.returns-in-Some-wanted_in
returns-in-Some-wanted_in c =
    let search = wanted_in c.args.heads.now c.args.wanted (member_named c.args.name.now c.args.descriptor.now) in
    let steps = superclass_at c.args.heads.now in
    let left = length c.args.heads.now - (c.loop-turn._turn + 1) in
    let more : length c.args.heads.now - c.loop-turn._turn ≡ suc left = omega arith in
    let here = subst (λ (at : Option ℕ). first_found search (walk_from steps (length c.args.heads.now - c.loop-turn._turn) at) ≡ first_found search (walk_from steps (length c.args.heads.now) (Some c.args.class))) c.in-Some.is c.loop-turn.invariant in
    let counted = subst (λ (most : ℕ). first_found search (walk_from steps most (Some c.in-Some.place)) ≡ first_found search (walk_from steps (length c.args.heads.now) (Some c.args.class))) more here in
    sym (up_found search steps left c.in-Some.place c.in-Some-wanted_in.position (sym c.wanted_in.ensures ∙ c.in-Some-wanted_in.is)) ∙ counted

pub loop-turn-preserved : goal.loop-turn-preserved
loop-turn-preserved c =
    let search = wanted_in c.args.heads.now c.args.wanted (member_named c.args.name.now c.args.descriptor.now) in
    let steps = superclass_at c.args.heads.now in
    let left = length c.args.heads.now - (c.loop-turn._turn + 1) in
    let more : length c.args.heads.now - c.loop-turn._turn ≡ suc left = omega arith in
    let here = subst (λ (at : Option ℕ). first_found search (walk_from steps (length c.args.heads.now - c.loop-turn._turn) at) ≡ first_found search (walk_from steps (length c.args.heads.now) (Some c.args.class))) c.in-Some.is c.loop-turn.invariant in
    let counted = subst (λ (most : ℕ). first_found search (walk_from steps most (Some c.in-Some.place)) ≡ first_found search (walk_from steps (length c.args.heads.now) (Some c.args.class))) more here in
    sym (up_next search steps left c.in-Some.place c.superclass_of-at.result (sym c.wanted_in.ensures ∙ c.in_default-wanted_in.is) c.superclass_of-at.ensures) ∙ counted

pub returns : goal.returns
returns c =
    let search = wanted_in c.args.heads.now c.args.wanted (member_named c.args.name.now c.args.descriptor.now) in
    let steps = superclass_at c.args.heads.now in
    let none : length c.args.heads.now - c.loop-turn._turn ≡ 0 = omega arith in
    let counted = subst (λ (most : ℕ). first_found search (walk_from steps most c.loop-turn.at) ≡ first_found search (walk_from steps (length c.args.heads.now) (Some c.args.class))) none c.loop-turn.invariant in
    sym (up_none search steps c.loop-turn.at) ∙ counted
