use Rattle.std.proofs.Common.{sym, ap, ◌∙◌, subst}
use Rattle.std.proofs.lemmas.Result.{IfOk-weaker}
use Rattle.class_file.specs.Lookup.{reference_seen}
use Rattle.machine_steps.specs.Runs.{answers_left}
use Rattle.machine_works.proofs.Kept.{on_equal, on_same}
use Rattle.machine_calling.proofs.running.run_method.Goals as goal

pub returns-then-is_native-clause-ran : goal.returns-then-is_native-clause-ran
returns-then-is_native-clause-ran c =
    IfOk-weaker c.run_native.result _ _ (λ ran h callee sees room. h callee (reference_seen c.args.named) sees (sym (c.is_native.ensures callee sees) ∙ c.if-is_native.true) room) c.run_native.ensures.ran

pub returns-then-is_native-clause-err : goal.returns-then-is_native-clause-err
returns-then-is_native-clause-err c = on_equal c.args.world.now c.args.state.now c.run_native.new.state c.run_native.result c.run_native.ensures.err

pub returns-in-Some-clause-ran : goal.returns-in-Some-clause-ran
returns-in-Some-clause-ran c =
    IfOk-weaker c.run_rule.result _ _
    (λ ran h callee sees room. h (answers_left c.args.script.now) callee (reference_seen c.args.named) (sym (c.is_native.ensures callee sees) ∙ c.if-is_native.false) (sym (c.in-Some.ensures callee sees)) room) c.run_rule.ensures.ran

pub returns-in_ok-step-in-None-clause-ran : goal.returns-in_ok-step-in-None-clause-ran
returns-in_ok-step-in-None-clause-ran c callee sees room =
    c.in_ok-step-in-None.ensures.goes (answers_left c.args.script.now) callee sees (sym (c.is_native.ensures callee sees) ∙ c.if-is_native.false) (sym (c.in-None.ensures callee sees))

pub returns-then-is_native-clause-same : goal.returns-then-is_native-clause-same
returns-then-is_native-clause-same c = on_same c.args.state.now c.run_native.new.state c.run_native.result c.run_native.ensures.err
