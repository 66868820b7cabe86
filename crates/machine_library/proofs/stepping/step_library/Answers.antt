use Rattle.std.specs.Prelude.{refl}
use Rattle.std.proofs.lemmas.Result.{IfOk-weaker}
use Rattle.machine_parts.specs.Taken.{takes_form, leaves_nowhere}
use Rattle.machine_steps.specs.declared.step.Step.TheVariants.{NotMine}
use Rattle.machine_steps.specs.Parts.{Part}
use Rattle.machine_steps.specs.Runs.{answers_left}
use Rattle.machine_library.proofs.stepping.step_library.Goals as goal

pub returns-in-Some-clause-takes : goal.returns-in-Some-clause-takes
returns-in-Some-clause-takes c =
    IfOk-weaker c.execute.result _ _ (λ step takes. takes_form c.args.world.now c.args.state.now c.execute.new.state (answers_left c.args.script.now) (answers_left c.execute.new.script) step Part.Library
    c.in-Some.running.pool.now c.in-Some.running.operation c.in-Some.ensures takes) c.execute.ensures.takes

pub returns-in-None-clause-takes : goal.returns-in-None-clause-takes
returns-in-None-clause-takes c =
    leaves_nowhere c.args.world.now c.args.state.now c.args.state.now (answers_left c.args.script.now) (answers_left c.args.script.now) NotMine Part.Library refl refl refl refl c.in-None.ensures
