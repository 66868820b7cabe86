-- What a report says of a run.
use Rattle.std.specs.Prelude.{◌≡◌, ℕ, suc, ◌≤◌, map, Some, None}
use Rattle.std.specs.Option.{option_map}
use Rattle.event_machine.specs.Observation.{Observation}
use Rattle.class_machine.specs.Events as events
use Rattle.machine_values.specs.declared.observed.Ending.{Ending}
use Rattle.machine_values.specs.Observed.{machine_event, machine_ending}
use Rattle.run_driver.specs.declared.report.Report.{Report}

-- what is observed of a run within each number of steps
abbrev pub Observed : Type 0
Observed = ℕ → Observation events.Event events.Ending

-- with so many steps the run has the ending, and with one less it has none
pub record EndsFirst (observed : Observed) (steps : ℕ) (ending : events.Ending) : Type 0 where
  pub fewer : ℕ
  pub counted : steps ≡ suc fewer
  pub ended : (observed steps).ending ≡ Some ending
  pub unended : (observed fewer).ending ≡ None

-- The report is what is observed of the run within the given steps. It has the least number of steps at which the run has
-- its ending, and all that were given where it has none.
pub record Reports (observed : Observed) (given : ℕ) (report : Report) : Type 0 where
  pub events : map machine_event report.events.items ≡ (observed given).events
  pub ending : option_map machine_ending report.ending ≡ (observed given).ending
  pub within : report.steps ≤ given
  pub spent : report.ending ≡ None → report.steps ≡ given
  pub first : (ending : Ending) → report.ending ≡ Some ending → EndsFirst observed report.steps (machine_ending ending)
