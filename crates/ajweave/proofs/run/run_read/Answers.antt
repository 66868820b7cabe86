use Rattle.std.proofs.Common.{Result}
use Rattle.std.proofs.lemmas.Result.{err_from_is_err_and}
use Rattle.machine_steps.specs.Runs.{answers_left}
use Rattle.run_driver.specs.declared.report.Report.{Report}
use Rattle.weave_plan.specs.Plan.{files_of}
use Rattle.ajweave.specs.declared.stop.Stop.{Stop}
use Rattle.ajweave.specs.Steps.{EndsOfRead, run_of}
use Rattle.ajweave.proofs.Outcomes.{passed_on, sizes_end, script_ends, classes_end, run_ends}
use Rattle.ajweave.proofs.run.run_read.Goals as goal

pub returns-in_err-check_sizes-clause-ended : goal.returns-in_err-check_sizes-clause-ended
returns-in_err-check_sizes-clause-ended c =
    let run = run_of c.args.words in
    let inputs = files_of c.args.inputs.now in
    let p = err_from_is_err_and c.from_residual.result c.from_residual.ensures.1 in
    passed_on (λ (r : Result Report Stop). EndsOfRead r run inputs c.args.script) c.from_residual.result p.0 c.in_err-check_sizes.field-0.0 p.1 p.2
    (sizes_end run inputs c.args.script c.in_err-check_sizes.field-0.0 c.in_err-check_sizes.ensures.stopped)

pub returns-in_err-script-clause-ended : goal.returns-in_err-script-clause-ended
returns-in_err-script-clause-ended c =
    let run = run_of c.args.words in
    let inputs = files_of c.args.inputs.now in
    let p = err_from_is_err_and c.from_residual-in_err-script.result c.from_residual-in_err-script.ensures.1 in
    passed_on (λ (r : Result Report Stop). EndsOfRead r run inputs c.args.script) c.from_residual-in_err-script.result p.0 c.in_err-script.field-0.0 p.1 p.2
    (script_ends run inputs c.args.script c.in_err-script.field-0.0 c.in_ok-check_sizes.ensures.small c.in_err-script.ensures.stopped)

pub returns-in_err-classes-clause-ended : goal.returns-in_err-classes-clause-ended
returns-in_err-classes-clause-ended c =
    let run = run_of c.args.words in
    let inputs = files_of c.args.inputs.now in
    let p = err_from_is_err_and c.from_residual-in_err-classes.result c.from_residual-in_err-classes.ensures.1 in
    passed_on (λ (r : Result Report Stop). EndsOfRead r run inputs c.args.script) c.from_residual-in_err-classes.result p.0 c.in_err-classes.field-0.0 p.1 p.2
    (classes_end run inputs c.args.script (answers_left c.in_ok-script.script) c.in_err-classes.field-0.0
    (record { small = c.in_ok-check_sizes.ensures.small; script = c.in_ok-script.ensures.taken }) c.in_err-classes.ensures.stopped)

pub returns-clause-ended : goal.returns-clause-ended
returns-clause-ended c =
    run_ends (run_of c.args.words) (files_of c.args.inputs.now) c.args.script c.in_ok-classes.classes.items (answers_left c.in_ok-script.script) c.run_from.result
    (record { small = c.in_ok-check_sizes.ensures.small; script = c.in_ok-script.ensures.taken })
    c.in_ok-classes.ensures.classes c.in_ok-classes.ensures.read c.run_from.ensures.ran c.run_from.ensures.stopped
