use Rattle.std.proofs.lemmas.Result.{err_from_is_err_and}
use Rattle.class_format.specs.Readers.{index_that}
use Rattle.class_file.specs.WellFormed.{is_class_index}
use Rattle.class_format.proofs.Loop.{list_begins, go_on, end, done}
use Rattle.class_format.proofs.tables.classes_at.Goals as goal

pub loop-init : goal.loop-init
loop-init c = rw c.new-classes.ensures (list_begins (index_that (is_class_index c.args.known.now.pool.now)) c.args.bytes.now c.in_ok-count.ensures)

pub returns-in_err-class : goal.returns-in_err-class
returns-in_err-class c =
    let p = err_from_is_err_and c.from_residual-in_err-class.result c.from_residual-in_err-class.ensures.1 in
    rw (p.1, p.2) (end c.in_err-class.field-0.0 c.loop.invariant c.loop-test.true c.in_err-class.ensures)

pub loop-preserved : goal.loop-preserved
loop-preserved c = rw c.in_ok-push.ensures.ok (go_on c.in_ok-class.class c.in_ok-class.after.now c.loop.invariant c.loop-test.true c.in_ok-class.ensures)

pub returns : goal.returns
returns c = done c.loop.invariant c.loop-test.false
