use Rattle.std.proofs.Common.{◌≡◌, ◌+◌, ◌-◌, ap, take, arith}
use Rattle.std.proofs.lemmas.List.{take_all}
use Rattle.machine_values.specs.Stacks.{weight}
use Rattle.machine_invocations.proofs.Filled.{weight_next, weight_front, over, under}
use Rattle.machine_invocations.proofs.entering.fits.Goals as goal

pub returns-then-width-left : goal.returns-then-width-left
returns-then-width-left c =
    let inv : c.loop-value.left + weight (take c.loop-value.value-index c.args.given.now) ≡ c.args.locals = c.loop-value.invariant in
    let next = weight_next c.args.given.now c.loop-value.value-index _ c.width-width.result (omega arith) c.width-width.ensures in
    let front = weight_front c.args.given.now (c.loop-value.value-index + 1) in
    over (weight c.args.given.now) c.args.locals (omega arith)

pub loop-value-preserved : goal.loop-value-preserved
loop-value-preserved c =
    let inv : c.loop-value.left + weight (take c.loop-value.value-index c.args.given.now) ≡ c.args.locals = c.loop-value.invariant in
    let next = weight_next c.args.given.now c.loop-value.value-index _ c.width-width.result (omega arith) c.width-width.ensures in
    let e : (c.loop-value.left - c.width-width.result) + weight (take (c.loop-value.value-index + 1) c.args.given.now) ≡ c.args.locals = omega arith in e

pub returns : goal.returns
returns c =
    let inv : c.loop-value.left + weight (take c.loop-value.value-index c.args.given.now) ≡ c.args.locals = c.loop-value.invariant in
    let all = ap weight (take_all c.loop-value.value-index c.args.given.now (omega arith)) in
    under (weight c.args.given.now) c.args.locals (omega arith)
