use Rattle.class_file.specs.Lookup.{reference_seen}
use Rattle.machine_invokes.proofs.Receivers.{null_missing, null_breaks, null_fails}
use Rattle.machine_invokes.proofs.callees.callee_of_null.Goals as goal

pub returns-in-Missing-clause-called : goal.returns-in-Missing-clause-called
returns-in-Missing-clause-called c names special given = null_missing c.args.world.now c.args.frame.now names special (reference_seen c.args.named) given c.in-Missing.ensures

pub returns-in-Breaks-clause-called : goal.returns-in-Breaks-clause-called
returns-in-Breaks-clause-called c names special given = null_breaks c.args.world.now c.args.frame.now names special (reference_seen c.args.named) given c.in-Breaks.ensures

pub returns-in-Runs-clause-called : goal.returns-in-Runs-clause-called
returns-in-Runs-clause-called c names special given = null_fails c.args.world.now c.args.frame.now names special (reference_seen c.args.named) given c.in-Runs._method c.in-Runs.ensures
