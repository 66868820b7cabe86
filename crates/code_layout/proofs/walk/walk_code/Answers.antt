use Rattle.std.proofs.Common.{arith, sym}
use Rattle.code_layout.proofs.Walking.{walk_begins, walk_goes_on, walk_ends, walk_fails}
use Rattle.code_layout.proofs.walk.walk_code.Goals as goal

pub loop-pc-preserved : goal.loop-pc-preserved
loop-pc-preserved c =
    walk_goes_on c.args.code.now c.loop-pc.pc c.loop-pc.found.steps.items _ c.loop-pc.found.numbers.items _ _ _ (λ i. (c.type_inv.code i).fits) c.loop-pc.invariant (omega arith) (sym c.in-Ok.ensures.exact) c.in_ok-add-in-Ok.ensures.steps c.in_ok-add-in-Ok.ensures.numbers

pub returns-in-Err-clause-fault : goal.returns-in-Err-clause-fault
returns-in-Err-clause-fault c = walk_fails c.args.code.now c.loop-pc.pc c.loop-pc.found.steps.items c.loop-pc.found.numbers.items _ (λ i. (c.type_inv.code i).fits) c.loop-pc.invariant (omega arith) (sym c.in-Err.ensures.exact)

pub returns-clause-walked : goal.returns-clause-walked
returns-clause-walked c = walk_ends c.args.code.now c.loop-pc.pc c.loop-pc.found.steps.items c.loop-pc.found.numbers.items c.loop-pc.invariant (omega arith)
