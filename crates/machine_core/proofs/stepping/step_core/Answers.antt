use Rattle.std.specs.Prelude.{List, refl}
use Rattle.std.proofs.lemmas.Result.{IfOk-weaker, on_err_weaker}
use Rattle.machine_values.specs.declared.script.Answer.{Answer}
use Rattle.machine_steps.specs.declared.step.Step.TheVariants.{NotMine}
use Rattle.machine_steps.specs.Parts.{Part, Takes}
use Rattle.machine_parts.specs.Taken.{takes_form, leaves_nowhere}
use Rattle.machine_core.specs.Taking.{TakesCore}
use Rattle.machine_core.proofs.Standing.{own_step}
use Rattle.machine_core.proofs.Spared.{may_need}
use Rattle.machine_core.proofs.stepping.step_core.Goals as goal

pub returns-in-None-clause-takes : goal.returns-in-None-clause-takes
returns-in-None-clause-takes c answers = leaves_nowhere c.args.world.now c.args.state.now c.args.state.now answers answers NotMine Part.Core refl refl refl refl c.in-None.ensures

pub returns-in-Some-clause-takes : goal.returns-in-Some-clause-takes
returns-in-Some-clause-takes c =
    let k = c.args.world.now in
    let old = c.args.state.now in
    let new = c.execute.new.state in
    let running = c.in-Some.running in
    IfOk-weaker c.execute.result (λ step. TakesCore k old new step running.pool.now running.operation) (λ step. (answers : List Answer) → Takes Part.Core k old new answers answers step)
    (λ step takes answers. takes_form k old new answers answers step Part.Core running.pool.now running.operation c.in-Some.ensures (takes answers)) c.execute.ensures.takes

pub returns-in-Some-clause-own : goal.returns-in-Some-clause-own
returns-in-Some-clause-own c =
    on_err_weaker c.execute.result (own_step c.args.world.now c.args.state.now c.in-Some.running.pool.now c.in-Some.running.operation c.in-Some.ensures) c.execute.ensures.own

pub returns-in-Some-clause-spared : goal.returns-in-Some-clause-spared
returns-in-Some-clause-spared c =
    on_err_weaker c.execute.result (may_need c.args.world.now c.args.state.now c.in-Some.running.pool.now c.in-Some.running.operation c.in-Some.ensures) c.execute.ensures.spared
