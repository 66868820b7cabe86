use Rattle.std.proofs.Common.{◌≡◌, Bool, List, sym, ap, ◌∙◌, subst}
use Rattle.machine_values.specs.declared.values.Value.{Value}
use Rattle.machine_steps.specs.Runs.{answers_left}
use Rattle.machine_natives.specs.Calls.{CallsNative}
use Rattle.machine_natives.specs.declared.calling.Called.{Called}
use Rattle.machine_calling.specs.Ran.{constructs}
use Rattle.machine_calling.proofs.Turns.{native_goes, native_lacks}
use Rattle.machine_calling.proofs.natives.run_native.Goals as goal

pub returns-in-Done-clause-ran : goal.returns-in-Done-clause-ran
returns-in-Done-clause-ran c callee r sees native room =
    let k = c.args.world.now in
    let old = c.args.state.now in
    let new = c.call_native.new.state in
    let call = c.args.call.now in
    let before = answers_left c.args.script.now in
    let after = answers_left c.call_native.new.script in
    native_goes k old new r callee call before after room native c.in-Done.step
    (subst (λ (x : Called). CallsNative k old new before after callee call.receiver call.arguments.items (constructs call.purpose) x) c.in-Done.is
    (subst (λ (b : Bool). CallsNative k old new before after callee call.receiver call.arguments.items b c.in_ok-called.called) c.constructs.ensures
    (subst (λ (vs : List Value). CallsNative k old new before after callee call.receiver vs c.constructs.result c.in_ok-called.called) c.as_slice.ensures.value (c.in_ok-called.ensures.called callee sees))))

pub returns-in-Lacks-clause-ran : goal.returns-in-Lacks-clause-ran
returns-in-Lacks-clause-ran c callee r sees native room =
    let k = c.args.world.now in
    let old = c.args.state.now in
    let new = c.call_native.new.state in
    let call = c.args.call.now in
    let before = answers_left c.args.script.now in
    let after = answers_left c.call_native.new.script in
    native_lacks k old new r callee call before after room native c.in-Lacks.event
    (subst (λ (x : Called). CallsNative k old new before after callee call.receiver call.arguments.items (constructs call.purpose) x) c.in-Lacks.is
    (subst (λ (b : Bool). CallsNative k old new before after callee call.receiver call.arguments.items b c.in_ok-called.called) c.constructs.ensures
    (subst (λ (vs : List Value). CallsNative k old new before after callee call.receiver vs c.constructs.result c.in_ok-called.called) c.as_slice.ensures.value (c.in_ok-called.ensures.called callee sees))))
