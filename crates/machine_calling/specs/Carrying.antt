-- An invocation, from the state before it.
use Rattle.std.specs.Prelude.{◌≡◌, ℕ, suc, List, length}
use Rattle.class_file.specs.Pool.{Reference}
use Rattle.class_world.specs.Tables.{Known}
use Rattle.class_machine.specs.declared.kinds.Mode.{Mode}
use Rattle.class_machine.specs.Operations.{Invoke}
use Rattle.machine_values.specs.declared.script.Answer.{Answer}
use Rattle.machine_values.specs.declared.state.MachineState.{MachineState}
use Rattle.machine_steps.specs.declared.step.Step.{Step}
use Rattle.machine_steps.specs.Executing.{executes, MovesOver}
use Rattle.machine_steps.specs.Moves.{Turning}
use Rattle.machine_steps.specs.Runs.{IsFormed}
use Rattle.machine_parts.specs.Lines.{StandsForOne}
use Rattle.machine_invokes.specs.declared.invocation.Invocation.{Invocation}
use Rattle.machine_invokes.specs.Preparing.{runs_call, Prepares}
use Rattle.machine_invokes.specs.Undoing.{CanUndo}
use Rattle.machine_calling.specs.declared.ran.Ran.{Ran}
use Rattle.machine_calling.specs.Ran.{RanBy}

-- the state is what preparing the call left of one that stood for some state of a machine
pub record IsPrepared (k : Known) (state : MachineState) (r : Reference) (call : Invocation) : Type 0 where
  pub before : MachineState
  pub mode : Mode
  pub prepares : Prepares k before state mode r call
  pub can : CanUndo before state call
  pub there : StandsForOne k before

-- Whatever state it was before the call was prepared: where running the method on the prepared state, whose running frame has that number, came
-- to that, the step executes the instruction.
abbrev pub CarriesOut : MachineState → MachineState → Ran → Invocation → ℕ → Step → Type 0
CarriesOut old new ran call index step =
    (k : Known) (before prepared : MachineState) (left rest : List Answer) (mode : Mode) (r : Reference) (prepares : Prepares k before prepared mode r call) → CanUndo before prepared call → length prepared.frames.items ≡ suc index
    → RanBy k prepared old left rest (runs_call r prepares.callee call prepared) ran → MovesOver k before new left rest step (executes (Invoke mode r))

abbrev pub StaysFormed : MachineState → MachineState → Ran → Invocation → ℕ → Type 0
StaysFormed old new ran call index =
    (k : Known) (before prepared : MachineState) (left rest : List Answer) (turning : Turning) → CanUndo before prepared call → length prepared.frames.items ≡ suc index → RanBy k prepared old left rest turning ran
    → IsFormed k before → IsFormed k old → IsFormed k new
