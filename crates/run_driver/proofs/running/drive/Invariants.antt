use Rattle.machine_steps.specs.Runs.{IsFormed, answers_left}
use Rattle.run_driver.proofs.Reached.{Reaches}
use Rattle.run_driver.proofs.running.drive.Given as goal

abbrev pub invariant-steps : goal.invariant-steps
invariant-steps l = record {
  formed : IsFormed l.world l.state;
  reaches : Reaches l.world l.fn.state (answers_left l.fn.script) l.taken l.events.items l.state (answers_left l.script);
}
