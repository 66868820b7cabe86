use Rattle.std.proofs.Common.{List, None, subst}
use Rattle.machine_values.specs.declared.values.Value.{Value}
use Rattle.machine_natives.specs.Calls.{ShowsCall}
use Rattle.std.proofs.lemmas.Result.{IfOk-weaker}
use Rattle.machine_steps.specs.Runs.{IsDueFormed, answers_left}
use Rattle.machine_natives.proofs.Entries.{closes_entry}
use Rattle.machine_natives.proofs.closing.close.Goals as goal

pub returns-in_ok-event-in-NativeEntry-clause-closes : goal.returns-in_ok-event-in-NativeEntry-clause-closes
returns-in_ok-event-in-NativeEntry-clause-closes c =
    let k = c.args.world.now in
    let old = c.args.state.now in
    IfOk-weaker c.call_entry.result _ _ (λ step answers.
    closes_entry k old c.call_entry.new.state (answers_left c.args.script.now) (answers_left c.call_entry.new.script) c.in-NativeEntry.method c.in-NativeEntry.given c.in-NativeEntry.is
    (subst (IsDueFormed k) c.in-NativeEntry.is c.requires.formed.due) c.in_ok-event-in-NativeEntry.event step
    (subst (λ (vs : List Value). ShowsCall k old.heap c.in-NativeEntry.method.0 None vs c.in_ok-event-in-NativeEntry.event) c.as_slice-in-NativeEntry.ensures c.in_ok-event-in-NativeEntry.ensures) answers) c.call_entry.ensures.answers
