use Rattle.std.proofs.Common.{arith, sym}
use Rattle.class_listing.proofs.Walking.{walk_begins, walk_goes_on, walk_ends, walk_fails}
use Rattle.class_listing.proofs.walk.walk.Goals as goal

pub loop-pc-init : goal.loop-pc-init
loop-pc-init c = walk_begins c.args.code.now c.new-steps.result c.new-steps.ensures

pub loop-pc-preserved : goal.loop-pc-preserved
loop-pc-preserved c =
    walk_goes_on c.args.code.now c.loop-pc.pc c.loop-pc.steps _ _ _ (λ i. (c.type_inv.code i).fits) c.loop-pc.invariant (omega arith) (sym c.in-Ok.ensures.exact) c.in_ok-push-in-Ok.ensures.ok

pub returns-in-Err-clause-insns : goal.returns-in-Err-clause-insns
returns-in-Err-clause-insns c = walk_fails c.args.code.now c.loop-pc.pc c.loop-pc.steps _ (λ i. (c.type_inv.code i).fits) c.loop-pc.invariant (omega arith) (sym c.in-Err.ensures.exact)

pub returns-clause-insns : goal.returns-clause-insns
returns-clause-insns c = walk_ends c.args.code.now c.loop-pc.pc c.loop-pc.steps c.loop-pc.invariant (omega arith)
