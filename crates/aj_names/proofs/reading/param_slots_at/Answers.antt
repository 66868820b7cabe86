use Rattle.std.proofs.Common.{◌≡◌, ◌≢◌, ◌∷◌, rules}
use Rattle.aj_names.proofs.Methods.{field_rest}
use Rattle.aj_names.proofs.Loops.{no_slots, slots_more}
use Rattle.aj_names.specs.Spelled.{type_of}
use Rattle.aj_names.proofs.reading.param_slots_at.Goals as goal

pub loop-first-init : goal.loop-first-init
loop-first-init c = no_slots c.args.bytes.now

pub loop-first-smaller : goal.loop-first-smaller
loop-first-smaller c = field_rest c.loop-first.rest.now (type_of c.in_ok-spelled.spelled) c.in_ok-spelled.after.now c.in_ok-spelled.ensures

pub loop-first-preserved : goal.loop-first-preserved
loop-first-preserved c =
    let is : c.loop-first.rest.now ≡ c.in-Some.first.now ∷ c.in-Some.after.now = search rules in
    let other : c.in-Some.first.now ≢ 41 = λ h. c.if-first-eq41.false h in
    slots_more c.loop-first.slots c.loop-first.rest.now c.args.bytes.now c.in-Some.first.now c.in-Some.after.now (type_of c.in_ok-spelled.spelled) c.in_ok-spelled.after.now c.loop-first.invariant is other c.in_ok-spelled.ensures c.saturating_add-slots.result (search rules)
