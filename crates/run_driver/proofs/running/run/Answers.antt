use Rattle.std.specs.Prelude.{map}
use Rattle.std.proofs.lemmas.Result.{IfOk-weaker}
use Rattle.class_machine.specs.ClassFiles.{class_code}
use Rattle.class_machine.specs.Start.{start}
use Rattle.machine_start.specs.Arguments.{argument_of}
use Rattle.machine_steps.specs.Runs.{answers_left}
use Rattle.machine_values.specs.Observed.{machine_answer}
use Rattle.run_driver.proofs.Machines.{machine, is_machine, method_of, sees_method, observed_so}
use Rattle.run_driver.proofs.running.run.Goals as goal

pub drive-requires-clause-there : goal.drive-requires-clause-there
drive-requires-clause-there c =
    let k = c.args.world.now in
    let m = machine k in
    let is = is_machine k c.requires.runnable in
    let entry = c.args.entry.now in
    let method = method_of k entry.method.0 c.requires.method in
    let left = answers_left c.args.script in
    record {
      machine = m;
      is = is;
      there = start (class_code m.files) m.setting.classes (map machine_answer left) method (map argument_of entry.args);
      runs = c.in_ok-state.ensures.starts m left method is (sees_method k entry.method.0 c.requires.method);
    }

pub returns : goal.returns
returns c =
    let k = c.args.world.now in
    let m = machine k in
    let is = is_machine k c.requires.runnable in
    let entry = c.args.entry.now in
    let left = answers_left c.args.script in
    IfOk-weaker c.drive.result _ _ (λ report reports method sees.
    observed_so k c.requires.runnable (map machine_answer left) method (map argument_of entry.args) c.args.steps report
    (reports m (start (class_code m.files) m.setting.classes (map machine_answer left) method (map argument_of entry.args)) is (c.in_ok-state.ensures.starts m left method is sees))) c.drive.ensures
