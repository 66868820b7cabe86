use Rattle.std.proofs.Common.{sym, ◌∙◌}
use Rattle.class_file.specs.Lookup.{reference_seen}
use Rattle.machine_invokes.proofs.Receivers.{unknown_object, object_missing, object_breaks, object_runs}
use Rattle.machine_invokes.proofs.callees.callee_of_object.Goals as goal

pub returns-then-not-is_known-clause-called : goal.returns-then-not-is_known-clause-called
returns-then-not-is_known-clause-called c given fine =
    unknown_object c.args.world.now c.args.frame.now c.args.heap.now c.args.special (reference_seen c.args.named) c.args.at given (sym c.is_known.ensures ∙ c.if-not-is_known.true)

pub returns-in-Missing-clause-called : goal.returns-in-Missing-clause-called
returns-in-Missing-clause-called c given fine = object_missing c.args.world.now c.args.frame.now c.args.heap.now c.args.special (reference_seen c.args.named) c.args.at given c.in-Missing.ensures.chosen

pub returns-in-Breaks-clause-called : goal.returns-in-Breaks-clause-called
returns-in-Breaks-clause-called c given fine = object_breaks c.args.world.now c.args.frame.now c.args.heap.now c.args.special (reference_seen c.args.named) c.args.at given c.in-Breaks.ensures.chosen

pub returns-in-Runs-clause-called : goal.returns-in-Runs-clause-called
returns-in-Runs-clause-called c given fine =
    object_runs c.args.world.now c.args.frame.now c.args.heap.now c.args.special (reference_seen c.args.named) c.args.at given c.in-Runs.method c.in-Runs.ensures.chosen (sym c.is_known.ensures ∙ c.if-not-is_known.false) fine

pub returns-in-Runs-clause-method : goal.returns-in-Runs-clause-method
returns-in-Runs-clause-method c = c.in-Runs.ensures.method
