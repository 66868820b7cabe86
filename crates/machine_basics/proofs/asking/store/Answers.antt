use Rattle.std.specs.Prelude.{ℤ, refl, length}
use Rattle.std.specs.Int.{w32}
use Rattle.std.proofs.Common.{subst}
use Rattle.std.proofs.lemmas.Int.{to_z-of_z}
use Rattle.class_machine.specs.Answers.{answer}
use Rattle.class_machine.specs.Effect.{ArrayStore}
use Rattle.machine_values.specs.Standing.{held}
use Rattle.machine_requests.specs.Growth.{settled_known}
use Rattle.machine_requests.specs.Replies.{Replies, object}
use Rattle.machine_requests.specs.Shares.{others_of}
use Rattle.machine_basics.proofs.Kept.{distinct_of, longer_by_none, fit_of, holds_here}
use Rattle.machine_basics.proofs.asking.store.Goals as goal

pub may_hold-fits-requires-clause-value : goal.may_hold-fits-requires-clause-value
may_hold-fits-requires-clause-value c = settled_known (length c.args.state.now.heap.names) c.args.value c.requires.settled

pub returns : goal.returns
returns c = let old = c.args.state.now in let k = c.args.world.now in record {
  same = refl;
  names = longer_by_none old.heap c.array_store.new.heap c.array_store.ensures.names;
  replies = λ m w is shares. subst (λ (i : ℤ). Replies m.setting c.array_store.new.heap (others_of old) w c.array_store.result
      (answer m.setting.classes w (ArrayStore c.args.element (object m.setting old.heap.names c.args.array) i (held m.setting.heads old.heap.names c.args.value)))) (to_z-of_z w32 c.args.index c.ranges.index)
      (c.array_store.ensures.answer (others_of old) m.setting w
      (holds_here k m is old.heap c.args.array c.args.value c.may_hold-fits.result (c.may_hold-fits.ensures is.distinct (fit_of k m is old.heap (others_of old) w shares)))
      (distinct_of k m is) shares);
  filled = λ m w is shares filled. c.array_store.ensures.filled m.setting filled;
}
