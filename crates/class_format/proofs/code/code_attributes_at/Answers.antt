use Rattle.std.proofs.lemmas.Result.{err_from_is_err_and}
use Rattle.class_format.specs.PartReading.{code_attribute}
use Rattle.class_format.proofs.Loop.{list_begins, go_on, end, done}
use Rattle.class_format.proofs.code.code_attributes_at.Goals as goal

pub loop-init : goal.loop-init
loop-init c = rw c.new-attributes.ensures (list_begins (code_attribute c.args.known.now.pool.now) c.args.bytes.now c.in_ok-count.ensures)

pub returns-in_err-attribute : goal.returns-in_err-attribute
returns-in_err-attribute c =
    let p = err_from_is_err_and c.from_residual-in_err-attribute.result c.from_residual-in_err-attribute.ensures.1 in
    rw (p.1, p.2) (end c.in_err-attribute.field-0.0 c.loop.invariant c.loop-test.true c.in_err-attribute.ensures)

pub loop-preserved : goal.loop-preserved
loop-preserved c = rw c.in_ok-push.ensures.ok (go_on c.in_ok-attribute.attribute c.in_ok-attribute.after.now c.loop.invariant c.loop-test.true c.in_ok-attribute.ensures)

pub returns : goal.returns
returns c = done c.loop.invariant c.loop-test.false
