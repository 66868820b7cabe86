use Rattle.machine_frames.proofs.Known.{still_known}
use mir.Val.{to_z, of_z}
use mir.Syntax.{w32}
use Rattle.std.proofs.Common.{◌≡◌, rules}
use Rattle.machine_frames.proofs.Sizing.{sizing_next, sizing_short, sizing_whole, sizing_taken}
use Rattle.machine_frames.proofs.sizes.pop_ints.Goals as goal

pub returns-in_default-clause-taken : goal.returns-in_default-clause-taken
returns-in_default-clause-taken c = sizing_short c.args.count c.args.operands.now c.taking.operands c.taking.sizes.items c.taking.left c.taking-test.true c.taking.invariant c.in_default.ensures.popped

pub returns-in_default-clause-within : goal.returns-in_default-clause-within
returns-in_default-clause-within c = still_known _ _ _ c.taking.invariant.stays c.pop_int.ensures.within

pub taking-preserved : goal.taking-preserved
taking-preserved c =
    let same : to_z w32 (of_z w32 c.in-Some.size) ≡ c.in-Some.size = search rules in
    rw same (sizing_next c.args.count c.args.operands.now c.taking.operands c.pop_int.new.operands c.taking.sizes.items c.taking.left c.in-Some.size c.taking-test.true c.taking.invariant c.pop_int.ensures.room c.in-Some.ensures.popped c.pop_int.ensures.within c.in-Some.ensures.taken)

pub returns-clause-taken : goal.returns-clause-taken
returns-clause-taken c = sizing_whole c.args.count c.args.operands.now c.taking.operands c.taking.sizes.items c.taking.left c.taking-test.false c.taking.invariant

pub returns-clause-popped : goal.returns-clause-popped
returns-clause-popped c = sizing_taken c.args.count c.args.operands.now c.taking.operands c.taking.sizes.items c.taking.left c.taking-test.false c.taking.invariant
