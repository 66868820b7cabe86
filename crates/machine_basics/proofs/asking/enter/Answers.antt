use Rattle.std.specs.Prelude.{refl}
use Rattle.machine_requests.specs.Shares.{others_of}
use Rattle.machine_basics.proofs.Kept.{distinct_of, longer_by_none, if_err}
use Rattle.machine_basics.proofs.Restored.{if_ok}
use Rattle.machine_basics.proofs.asking.enter.Goals as goal

pub returns-clause-entered : goal.returns-clause-entered
returns-clause-entered c = if_ok _ _ c.enter_monitor.result (λ reply entered k. let old = c.args.state.now in record {
  same = refl;
  names = longer_by_none old.heap old.heap refl;
  replies = λ m w is shares. entered old.heap (others_of old) refl c.requires m.setting w (distinct_of k m is) shares;
  filled = λ m w is shares filled. filled;
}) c.enter_monitor.ensures.ok

pub returns-clause-err : goal.returns-clause-err
returns-clause-err c = if_err _ _ c.enter_monitor.result (λ still k. let old = c.args.state.now in record {
  frames = refl;
  due = refl;
  statics = refl;
  begun = refl;
  names = longer_by_none old.heap old.heap refl;
  shares = λ m w is shares. still old.heap (others_of old) refl c.requires m.setting w shares;
  filled = λ m w is shares filled. filled;
}) c.enter_monitor.ensures.err
