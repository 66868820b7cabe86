use Rattle.std.proofs.Common.{arith}
use Rattle.std.proofs.lemmas.Grind.{common_steps}
use Rattle.std.proofs.lemmas.Result.{err_from_is_err_and}
use Rattle.class_format.proofs.Loop.{turns_go_on, turns_end, turns_done}
use Rattle.class_format.proofs.PoolLoop.{entries_begin}
use Rattle.class_format.proofs.pool.entries_of.Goals as goal

pub loop-index-init : goal.loop-index-init
loop-index-init c = record {
  left = rw c.new-entries.ensures (entries_begin c.args.count c.args.scope c.args.bytes.now c.requires);
  read = grind (arith, common_steps);
  within = omega arith;
}

pub returns-in_err-entry-clause-exact : goal.returns-in_err-entry-clause-exact
returns-in_err-entry-clause-exact c =
    let p = err_from_is_err_and c.from_residual.result c.from_residual.ensures.1 in
    rw (p.1, p.2) (turns_end c.in_err-entry.field-0.0 c.loop-index.invariant.left c.loop-index-test.true c.in_err-entry.ensures)

pub loop-index-preserved : goal.loop-index-preserved
loop-index-preserved c = record {
  left = rw (c.in_ok-push.ensures.ok, c.is_wide-wide.ensures) (turns_go_on c.in_ok-entry.entry c.in_ok-entry.after.now c.loop-index.invariant.left c.loop-index-test.true c.in_ok-entry.ensures);
  read = grind (arith, common_steps);
  within = omega arith;
}

pub returns-clause-exact : goal.returns-clause-exact
returns-clause-exact c = turns_done c.loop-index.invariant.left c.loop-index-test.false
