use Rattle.machine_frames.proofs.Known.{still_known}
use Rattle.machine_frames.proofs.Arguments.{taking_next, taking_lacks, taking_done, taking_settled, taking_taken}
use Rattle.machine_frames.proofs.calls.pop_arguments.Goals as goal

pub returns-in_default-clause-taken : goal.returns-in_default-clause-taken
returns-in_default-clause-taken c = taking_lacks c.args.kinds.now c.args.operands.now c.taking.operands c.taking.arguments.items c.taking.left _ c.taking-test.true c.taking.invariant c.in_default.ensures.popped

pub returns-in_default-clause-within : goal.returns-in_default-clause-within
returns-in_default-clause-within c = still_known _ _ _ c.taking.invariant.stays c.pop_kind.ensures.within

pub taking-preserved : goal.taking-preserved
taking-preserved c = taking_next c.args.kinds.now c.args.operands.now c.taking.operands c.pop_kind.new.operands c.taking.arguments.items c.taking.left _ c.in-Some.held c.taking-test.true c.taking.invariant c.pop_kind.ensures.room c.in-Some.ensures.popped c.pop_kind.ensures.within c.in-Some.ensures.known c.in-Some.ensures.taken

pub returns-clause-taken : goal.returns-clause-taken
returns-clause-taken c = taking_done c.args.kinds.now c.args.operands.now c.taking.operands c.taking.arguments.items c.taking.left c.taking-test.false c.taking.invariant

pub returns-clause-settled : goal.returns-clause-settled
returns-clause-settled c = taking_settled c.args.kinds.now c.args.operands.now c.taking.operands c.taking.arguments.items c.taking.left c.taking-test.false c.taking.invariant

pub returns-clause-popped : goal.returns-clause-popped
returns-clause-popped c = taking_taken c.args.kinds.now c.args.operands.now c.taking.operands c.taking.arguments.items c.taking.left c.taking-test.false c.taking.invariant
