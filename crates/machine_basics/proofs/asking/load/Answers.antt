use Rattle.std.specs.Prelude.{ℤ, refl}
use Rattle.std.specs.Int.{w32}
use Rattle.std.proofs.Common.{subst}
use Rattle.std.proofs.lemmas.Int.{to_z-of_z}
use Rattle.class_machine.specs.Answers.{answer}
use Rattle.class_machine.specs.Effect.{ArrayLoad}
use Rattle.machine_requests.specs.Replies.{Replies, object}
use Rattle.machine_requests.specs.Shares.{others_of}
use Rattle.machine_basics.proofs.Kept.{distinct_of, longer_by_none}
use Rattle.machine_basics.proofs.asking.load.Goals as goal

pub returns : goal.returns
returns c k = let old = c.args.state.now in record {
  same = refl;
  names = longer_by_none old.heap old.heap refl;
  replies = λ m w is shares. subst (λ (i : ℤ). Replies m.setting old.heap (others_of old) w c.array_load.result (answer m.setting.classes w (ArrayLoad c.args.element (object m.setting old.heap.names c.args.array) i))) (to_z-of_z w32 c.args.index c.ranges.index)
      (c.array_load.ensures (others_of old) m.setting w (distinct_of k m is) shares);
  filled = λ m w is shares filled. filled;
}
