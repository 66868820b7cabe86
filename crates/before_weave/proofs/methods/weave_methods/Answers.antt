use Rattle.std.proofs.Common.{◌<◌, ◌≤◌, length, ◌∙◌, arith}
use Rattle.before_weave.proofs.Walks.{marked_more, marked_all, or_then, or_else}
use Rattle.before_weave.proofs.methods.weave_methods.Goals as goal
use Rattle.before_weave.proofs.methods.weave_methods.Goals.{then-advised, else-advised}

pub loop-method-preserved : goal.loop-method-preserved
loop-method-preserved c =
    let lt : c.loop-method.method-index < length c.args.methods.now = omega arith in
    marked_more c.args.marks.now c.args.index c.args.methods.now c.loop-method.members.items _ c.loop-method.method-index c.method-item.result c.in_ok-woven.woven.member
    c.loop-method.advised c.in_ok-woven.woven.advised c.if-advised.advised lt c.method-item.is c.loop-method.invariant c.in_ok-woven.ensures.member c.in_ok-woven.ensures.advised c.in_ok-push.ensures.items
    (elim c.if-advised.branch [
      | then-advised w ↦ or_then c.loop-method.advised c.in_ok-woven.woven.advised c.if-advised.advised w.if-advised.true (w.advised-is ∙ w.if-advised.true)
      | else-advised w ↦ or_else c.loop-method.advised c.in_ok-woven.woven.advised c.if-advised.advised w.if-advised.false w.advised-is
    ])

pub returns : goal.returns
returns c =
    let le : length c.args.methods.now ≤ c.loop-method.method-index = omega arith in
    marked_all c.args.marks.now c.args.index c.args.methods.now c.loop-method.members.items c.loop-method.method-index c.loop-method.advised le c.loop-method.invariant
