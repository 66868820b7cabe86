use Rattle.std.specs.Prelude.{refl}
use Rattle.machine_requests.specs.Shares.{others_of}
use Rattle.machine_basics.proofs.Kept.{distinct_of, longer_by_none}
use Rattle.machine_basics.proofs.asking.leave.Goals as goal

pub returns : goal.returns
returns c k = let old = c.args.state.now in record {
  same = refl;
  names = longer_by_none old.heap old.heap refl;
  replies = λ m w is shares. c.leave_monitor.ensures old.heap (others_of old) refl c.requires m.setting w (distinct_of k m is) shares;
  filled = λ m w is shares filled. filled;
}
