use Rattle.std.proofs.Common.{List, Bool, length, sym, subst, arith}
use Rattle.class_listing.specs.Steps.{step}
use Rattle.class_listing.specs.Walked.{AreMarks}
use Rattle.class_listing.proofs.Lists.{steps_put}
use Rattle.class_listing.proofs.body.put_steps.Goals as goal

pub loop-step-preserved : goal.loop-step-preserved
loop-step-preserved c =
    let marked = subst (λ (marks : List Bool). AreMarks (length c.args.code.now) c.args.places.now marks) (sym c.as_slice.ensures.value) c.in_ok-marks.ensures in
    steps_put (step c.args.pool.now c.args.code.now c.args.places.now) c.args.steps.now c.loop-step.step-index _ c.in_ok-line.line _ _ _ (omega arith) (c.in_ok-line.ensures c.args.places.now marked) c.loop-step.invariant c.in_ok-push.ensures.ok
