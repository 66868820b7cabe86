use Rattle.std.proofs.lemmas.Result.{err_from_is_err_and}
use Rattle.class_format.specs.PartReading.{exception}
use Rattle.class_format.proofs.Loop.{list_begins, go_on, end, done}
use Rattle.class_format.proofs.tables.exceptions_at.Goals as goal

pub loop-init : goal.loop-init
loop-init c = rw c.new-entries.ensures (list_begins (exception c.args.known.now.pool.now) c.args.bytes.now c.in_ok-count.ensures)

pub returns-in_err-entry : goal.returns-in_err-entry
returns-in_err-entry c =
    let p = err_from_is_err_and c.from_residual-in_err-entry.result c.from_residual-in_err-entry.ensures.1 in
    rw (p.1, p.2) (end c.in_err-entry.field-0.0 c.loop.invariant c.loop-test.true c.in_err-entry.ensures)

pub loop-preserved : goal.loop-preserved
loop-preserved c = rw c.in_ok-push.ensures.ok (go_on c.in_ok-entry.entry c.in_ok-entry.after.now c.loop.invariant c.loop-test.true c.in_ok-entry.ensures)

pub returns : goal.returns
returns c = done c.loop.invariant c.loop-test.false
