use Rattle.std.proofs.Common.{sym, ◌∙◌, arith}
use Rattle.std.proofs.lemmas.Bool.{eqb-true, eqb-false}
use Rattle.std.proofs.lemmas.Result.{IfOk-weaker, on_err_weaker}
use Rattle.machine_parts.specs.Taken.{takes_form, breaks_nowhere}
use Rattle.machine_statics.proofs.Kept.{keeps_equal}
use Rattle.machine_steps.specs.Parts.{Part}
use Rattle.machine_steps.specs.Runs.{answers_left}
use Rattle.machine_calls.proofs.Closed.{takes_closed}
use Rattle.machine_calls.proofs.stepping.step_calls.Goals as goal

pub returns-then-is_empty-clause-takes : goal.returns-then-is_empty-clause-takes
returns-then-is_empty-clause-takes c =
    let empty = eqb-true c.args.state.now.frames.len 0 (sym c.is_empty.ensures ∙ c.if-is_empty.true) in
    IfOk-weaker c.close.result _ _ (λ step closes. takes_closed c.args.world.now c.args.state.now c.close.new.state (answers_left c.args.script.now) (answers_left c.close.new.script) step (omega (arith, c.args.state.now.frames.ok.0)) closes) c.close.ensures.closes

pub returns-then-is_empty-clause-err : goal.returns-then-is_empty-clause-err
returns-then-is_empty-clause-err c = on_err_weaker c.close.result (keeps_equal c.args.world.now c.args.state.now c.close.new.state) c.close.ensures.err

pub returns-in-Some-clause-takes : goal.returns-in-Some-clause-takes
returns-in-Some-clause-takes c =
    IfOk-weaker c.execute.result _ _ (λ step takes. takes_form c.args.world.now c.args.state.now c.execute.new.state (answers_left c.args.script.now) (answers_left c.execute.new.script) step Part.Calls
    c.in-Some.running.pool.now c.in-Some.running.operation c.in-Some.ensures takes) c.execute.ensures.takes

pub returns-in-None-clause-takes : goal.returns-in-None-clause-takes
returns-in-None-clause-takes c =
    let some = eqb-false c.args.state.now.frames.len 0 (sym c.is_empty.ensures ∙ c.if-is_empty.false) in
    breaks_nowhere c.args.world.now c.args.state.now c.args.state.now (answers_left c.args.script.now) (answers_left c.args.script.now) (omega (arith, c.args.state.now.frames.ok.0)) c.in-None.ensures
