use Rattle.std.proofs.lemmas.Result.{err_from_is_err_and}
use Rattle.machine_steps.specs.Runs.{answers_left}
use Rattle.run_plan.specs.Running.{IsRefused}
use Rattle.run_plan.proofs.Entering.{runs_from, refused_memory, err_of}
use Rattle.run_plan.proofs.running.run_classes.Goals as goal

pub returns-in_err-run-in-Some-clause-refused : goal.returns-in_err-run-in-Some-clause-refused
returns-in_err-run-in-Some-clause-refused c =
    let p = err_from_is_err_and c.from_residual-in_err-run-in-Some.result c.from_residual-in_err-run-in-Some.ensures.1 in
    err_of (IsRefused c.args.classes.items c.args.words) c.from_residual-in_err-run-in-Some.result p.0 p.1
    (refused_memory c.args.classes.items c.args.words p.0 p.2)

pub returns-in_ok-run-in-Some-clause-ran : goal.returns-in_ok-run-in-Some-clause-ran
returns-in_ok-run-in-Some-clause-ran c =
    runs_from c.args.classes.items c.args.words c.in_ok-world.world c.in_ok-world.ensures.world c.in_ok-world.ensures.sound
    c.in-Some.entry (answers_left c.args.script) c.args.steps c.in_ok-run-in-Some.field-0 c.in-Some.ensures c.in_ok-run-in-Some.ensures
