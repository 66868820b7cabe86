use Rattle.std.proofs.Common.{Bool, Option, length, subst}
use Rattle.machine_values.specs.declared.values.Value.{Value}
use Rattle.machine_statics.specs.Returns.{IsResult, TellsSettled}
use Rattle.machine_statics.proofs.Returned.{if_both, frame_split, not_within, broken_out, unsettled_out, result_out, returns_by}
use Rattle.machine_statics.proofs.returning.step_return.Goals as goal

pub returns-in_default-result_of : goal.returns-in_default-result_of
returns-in_default-result_of c =
    let k = c.args.world.now in
    let old = c.args.state.now in
    let g = c.in-Some.frame.now in
    record {
      formed = c.requires.formed;
      moves =
          broken_out k old c.args.kind c.result_kind-returns.result _ g (frame_split old.frames.items c.deref.result.now g c.deref.ensures.value c.in-Some.ensures.value) c.result_kind-returns.ensures
          (λ m. not_within g.purpose c.in_default-purpose.not-Within m old.heap.names) old
          (subst (λ (o : Option (Option Value)). IsResult g c.args.kind c.result_kind-returns.result o) c.in_default-result_of.is c.result_of.ensures);
      err = tt;
    }

pub returns-then-not-is_settled_result : goal.returns-then-not-is_settled_result
returns-then-not-is_settled_result c =
    let k = c.args.world.now in
    let old = c.args.state.now in
    let g = c.in-Some.frame.now in
    record {
      formed = c.requires.formed;
      moves =
          unsettled_out k old c.args.kind c.result_kind-returns.result _ g (frame_split old.frames.items c.deref.result.now g c.deref.ensures.value c.in-Some.ensures.value) c.result_kind-returns.ensures
          (λ m. not_within g.purpose c.in_default-purpose.not-Within m old.heap.names) old c.in-Some-result_of.value c.in-Some-result_of.ensures
          (subst (λ (b : Bool). TellsSettled (length old.heap.names) c.in-Some-result_of.value b) c.if-not-is_settled_result.true c.is_settled_result.ensures);
      err = tt;
    }

pub returns : goal.returns
returns c =
    let k = c.args.world.now in
    let old = c.args.state.now in
    let g = c.in-Some.frame.now in
    let new = c.leave_frame.new.state in
    record {
      formed = c.leave_frame.ensures.formed;
      moves =
          if_both _ _ _ (λ step moves mine.
          returns_by k old new step c.args.kind mine
          (result_out k old c.args.kind c.result_kind-returns.result _ g (frame_split old.frames.items c.deref.result.now g c.deref.ensures.value c.in-Some.ensures.value) c.result_kind-returns.ensures
          (λ m. not_within g.purpose c.in_default-purpose.not-Within m old.heap.names) new step c.in-Some-result_of.value c.in-Some-result_of.ensures moves))
          c.leave_frame.result c.leave_frame.ensures.moves c.leave_frame.ensures.mine;
      err = c.leave_frame.ensures.err;
    }
