-- The step of the whole machine.
use Rattle.std.specs.Prelude.{List}
use Rattle.class_world.specs.Tables.{Known}
use Rattle.class_machine.specs.ClassFiles.{Place}
use Rattle.class_machine.specs.Machine.{State}
use Rattle.machine_values.specs.declared.script.Answer.{Answer}
use Rattle.machine_values.specs.declared.state.MachineState.{MachineState}
use Rattle.machine_steps.specs.declared.step.Step.{Step}
use Rattle.machine_steps.specs.Programs.{Machine, IsMachine}
use Rattle.machine_steps.specs.Runs.{Runs, Stepped}
use Rattle.machine_invocations.specs.Invoked.{step_of}

-- with these answers left the state is one of some machine of the world
pub record IsThere (k : Known) (state : MachineState) (left : List Answer) : Type 0 where
  pub machine : Machine
  pub is : IsMachine k machine
  pub there : State Place
  pub runs : Runs machine state left there

-- Whatever state of the machine the old one stood for, the step is the machine's. So it is the step of one of the parts.
abbrev pub Steps : Known → MachineState → MachineState → List Answer → List Answer → Step → Type 0
Steps k old new before after step = (m : Machine) (t : State Place) → IsMachine k m → Runs m old before t → Stepped m new after step (step_of m t)
