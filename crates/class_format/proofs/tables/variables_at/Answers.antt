use Rattle.std.proofs.lemmas.Result.{err_from_is_err_and}
use Rattle.class_format.specs.Roles.{serves}
use Rattle.class_format.specs.PartReading.{variable}
use Rattle.class_format.proofs.Loop.{list_begins, go_on, end, done}
use Rattle.class_format.proofs.tables.variables_at.Goals as goal

pub loop-init : goal.loop-init
loop-init c = rw c.new-rows.ensures (list_begins (variable (serves c.args.known.now.pool.now c.args.role) c.args.known.now.pool.now) c.args.bytes.now c.in_ok-count.ensures)

pub returns-in_err-row : goal.returns-in_err-row
returns-in_err-row c =
    let p = err_from_is_err_and c.from_residual-in_err-row.result c.from_residual-in_err-row.ensures.1 in
    rw (p.1, p.2) (end c.in_err-row.field-0.0 c.loop.invariant c.loop-test.true c.in_err-row.ensures)

pub loop-preserved : goal.loop-preserved
loop-preserved c = rw c.in_ok-push.ensures.ok (go_on c.in_ok-row.row c.in_ok-row.after.now c.loop.invariant c.loop-test.true c.in_ok-row.ensures)

pub returns : goal.returns
returns c = done c.loop.invariant c.loop-test.false
