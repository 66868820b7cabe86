use Rattle.std.proofs.lemmas.Result.{err_from_is_err_and}
use Rattle.class_format.specs.PartReading.{field}
use Rattle.class_format.specs.Reading.{fields}
use Rattle.class_format.proofs.Loop.{list_begins, go_on, end, done}
use Rattle.class_format.proofs.members.fields_at.Goals as goal

pub loop-init : goal.loop-init
unfolding fields
loop-init c = rw c.new-fields.ensures (list_begins (field c.args.known.now.major c.args.known.now.pool.now) c.args.bytes.now c.in_ok-count.ensures)

pub returns-in_err-field : goal.returns-in_err-field
returns-in_err-field c =
    let p = err_from_is_err_and c.from_residual-in_err-field.result c.from_residual-in_err-field.ensures.1 in
    rw (p.1, p.2) (end c.in_err-field.field-0.0 c.loop.invariant c.loop-test.true c.in_err-field.ensures)

pub loop-preserved : goal.loop-preserved
loop-preserved c = rw c.in_ok-push.ensures.ok (go_on c.in_ok-field.field c.in_ok-field.after.now c.loop.invariant c.loop-test.true c.in_ok-field.ensures)

pub returns : goal.returns
returns c = done c.loop.invariant c.loop-test.false
