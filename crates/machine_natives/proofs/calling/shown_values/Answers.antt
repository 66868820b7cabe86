use Rattle.std.proofs.Common.{◌+◌, sym, subst, arith, get_or, take, length, pos}
use Rattle.std.proofs.lemmas.List.{get_or_default}
use Rattle.machine_values.specs.declared.values.Value.{Value}
use Rattle.machine_values.specs.declared.values.Value.TheVariants.{Int}
use Rattle.machine_requests.specs.Growth.{settled_known}
use Rattle.machine_invocations.specs.Showing.{AreShown}
use Rattle.machine_natives.specs.Calls.{values_given}
use Rattle.machine_natives.proofs.Shown.{next_shown, all_shown, settled_at}
use Rattle.machine_natives.proofs.calling.shown_values.Goals as goal

pub arguments-init : goal.arguments-init
arguments-init c = c.in_ok-seen.ensures

pub show-requires : goal.show-requires
show-requires c =
    let given = c.args.given.now in
    let i = c.arguments.value-index in
    let v : Value = get_or given i (Int (pos 0)) in
    settled_known (length c.args.heap.now.names) v (settled_at (length c.args.heap.now.names) given i v (omega arith) (get_or_default given i (Int (pos 0)) v (omega arith)) c.requires.given)

pub arguments-preserved : goal.arguments-preserved
arguments-preserved c =
    let given = c.args.given.now in
    let i = c.arguments.value-index in
    let v : Value = get_or given i (Int (pos 0)) in
    subst (AreShown c.args.world.now c.args.heap.now (values_given c.args.receiver (take (i + 1) given))) (sym c.in_ok-push.ensures.items)
    (next_shown c.args.world.now c.args.heap.now c.args.receiver given i v c.arguments.seen.items c.in_ok-shown.shown (omega arith) (get_or_default given i (Int (pos 0)) v (omega arith)) c.arguments.invariant c.in_ok-shown.ensures)

pub returns : goal.returns
returns c =
    subst (AreShown c.args.world.now c.args.heap.now (values_given c.args.receiver c.args.given.now)) (sym c.from_vec.ensures)
    (all_shown c.args.world.now c.args.heap.now c.args.receiver c.args.given.now c.arguments.value-index c.arguments.seen.items (omega arith) c.arguments.invariant)
