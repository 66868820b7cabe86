-- Steps with which a run is over.
use Rattle.std.specs.Prelude.{Bool, true, false}
use Rattle.machine_values.specs.declared.observed.Ending.TheVariants.{Broken}
use Rattle.machine_steps.specs.declared.step.Step.{Step}
use Rattle.machine_steps.specs.declared.step.Step.TheVariants.{Ended}

-- the run is over, and isn't Broken
abbrev pub ends : Step → Bool
ends (Ended Broken) = false
ends (Ended ending) = true
ends step = false
