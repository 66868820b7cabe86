use Rattle.std.proofs.Common.{arith}
use Rattle.code_layout.specs.Numbers.{IsJump}
use Rattle.code_layout.proofs.Zips.{zip_more}
use Rattle.code_layout.proofs.Faults.{first_astray_at}
use Rattle.code_layout.proofs.jumps.jumps.Goals as goal

pub loop-step-preserved : goal.loop-step-preserved
loop-step-preserved c =
    zip_more (IsJump c.args.code.now c.args.numbers.now) c.args.steps.now _ _ c.loop-step.step-index _ _ (omega arith) c.loop-step.invariant c.in-Ok.ensures.found c.in_ok-push-in-Ok.ensures.items

pub returns-in-Err-clause-fault : goal.returns-in-Err-clause-fault
returns-in-Err-clause-fault c = first_astray_at c.args.code.now c.args.numbers.now c.args.steps.now c.loop-step.all.items c.loop-step.step-index _ _ (omega arith) c.loop-step.invariant c.in-Err.ensures.fault
