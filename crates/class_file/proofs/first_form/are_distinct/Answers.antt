use Rattle.class_file.specs.FirstForm.{are_distinct, names_in}
use Rattle.class_file.proofs.MethodNames.{distinct_further}
use Rattle.class_file.proofs.first_form.are_distinct.Goals as goal

pub loop-i-preserved : goal.loop-i-preserved
loop-i-preserved c = distinct_further c.args.pool.now c.args.methods.now c.loop-i.i c.first_differs.result (are_distinct (names_in c.args.pool.now c.args.methods.now)) c.first_differs.ensures c.if-not-first_differs.false c.loop-i.invariant
