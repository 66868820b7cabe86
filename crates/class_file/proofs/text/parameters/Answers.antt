use Rattle.std.proofs.Common.{length, sym}
use Rattle.class_file.specs.Text.{parameters}
use Rattle.class_file.proofs.Parameters.{another, answered, none_left}
use Rattle.class_file.proofs.text.parameters.Goals as goal

pub loop-preserved : goal.loop-preserved
loop-preserved c = (another (length c.args.bytes.now) c.loop.counter c.loop.slots c.loop.rest.now (c.in-Ok.up_to, c.in-Ok.after.now) (parameters (length c.args.bytes.now) c.args.before c.args.bytes.now) c.loop-test.true (sym c.in-Ok.ensures.next) c.loop.invariant.0, c.in-Ok.ensures.few)

pub returns-in-Err : goal.returns-in-Err
returns-in-Err c = answered (length c.args.bytes.now) c.loop.counter c.loop.slots c.loop.rest.now c.in-Err.answer (parameters (length c.args.bytes.now) c.args.before c.args.bytes.now) c.loop-test.true (sym c.in-Err.ensures.next) c.loop.invariant.0

pub returns : goal.returns
returns c = none_left (length c.args.bytes.now) c.loop.counter c.loop.slots c.loop.rest.now (parameters (length c.args.bytes.now) c.args.before c.args.bytes.now) c.loop-test.false c.loop.invariant.0
