use Rattle.std.proofs.Common.{◌+◌}
use Rattle.std.proofs.lemmas.Result.{err_from_is_err_and}
use Rattle.class_format.specs.PartReading.{method}
use Rattle.class_format.specs.Reading.{methods}
use Rattle.class_format.proofs.Loop.{turn_list_begins, turns_go_on, turns_end, turns_done}
use Rattle.class_format.proofs.members.methods_at.Goals as goal

pub loop-position-init : goal.loop-position-init
unfolding methods
loop-position-init c =
    rw c.new-methods.ensures (turn_list_begins (method c.args.known.now.major c.args.known.now.pool.now) (λ position m. position + 1) 0 c.args.bytes.now c.in_ok-count.ensures)

pub returns-in_err-method : goal.returns-in_err-method
returns-in_err-method c =
    let p = err_from_is_err_and c.from_residual-in_err-method.result c.from_residual-in_err-method.ensures.1 in
    rw (p.1, p.2) (turns_end c.in_err-method.field-0.0 c.loop-position.invariant c.loop-position-test.true c.in_err-method.ensures)

pub loop-position-preserved : goal.loop-position-preserved
loop-position-preserved c =
    rw c.in_ok-push.ensures.ok (turns_go_on c.in_ok-method.method c.in_ok-method.after.now c.loop-position.invariant c.loop-position-test.true c.in_ok-method.ensures)

pub returns : goal.returns
returns c = turns_done c.loop-position.invariant c.loop-position-test.false
