use Rattle.std.proofs.Common.{◌≡◌, ◌<◌, ℕ, Some, drop, sym, ap, ◌∙◌, subst, arith}
use Rattle.machine_code.specs.TypeLengths.{type_length}
use Rattle.machine_code.proofs.TypeKinds.{kinds, next_kinds, kind_there, no_kind_there}
use Rattle.machine_code.proofs.descriptors.parameter_kind.Goals as goal

pub loop-turn-preserved : goal.loop-turn-preserved
loop-turn-preserved c =
    next_kinds (drop 1 c.args.descriptor.now) c.loop-turn.rest.now c.loop-turn._turn c.loop-turn.invariant ∙ ap kinds (sym c.behind_first-rest.ensures)

pub returns-then-type_length-eq0 : goal.returns-then-type_length-eq0
returns-then-type_length-eq0 c =
    let done : c.loop-turn._turn ≡ c.args.i = omega arith in
    let so_far = subst (λ (n : ℕ). drop n (kinds (drop 1 c.args.descriptor.now)) ≡ kinds c.loop-turn.rest.now) done c.loop-turn.invariant in
    no_kind_there (drop 1 c.args.descriptor.now) c.loop-turn.rest.now c.args.i so_far (sym c.type_length.ensures.length ∙ c.if-type_length-eq0.true)

pub returns-else-type_length-eq0 : goal.returns-else-type_length-eq0
returns-else-type_length-eq0 c =
    let done : c.loop-turn._turn ≡ c.args.i = omega arith in
    let so_far = subst (λ (n : ℕ). drop n (kinds (drop 1 c.args.descriptor.now)) ≡ kinds c.loop-turn.rest.now) done c.loop-turn.invariant in
    let here = c.type_length.ensures.length in
    let other = c.if-type_length-eq0.false in
    let some : 0 < type_length c.loop-turn.rest.now = grind arith in
    ap Some c.kind_in.ensures ∙ kind_there (drop 1 c.args.descriptor.now) c.loop-turn.rest.now c.args.i so_far some
