-- Returns into calls of the library that wait for a text (JVMS 3.6.4).
use Rattle.std.specs.Prelude.{◌≡◌, ◌-◌, Bool, true, false, List, ◌∷◌, length, slice_get, Result, Ok, Option, Some, None}
use Rattle.std.specs.declared.alloc.AllocError.{AllocError}
use Rattle.class_world.specs.Tables.{Known}
use Rattle.class_machine.specs.ClassFiles.{Place}
use Rattle.class_machine.specs.Machine.{State}
use Rattle.class_machine.specs.Turn as turns
use Rattle.class_machine.specs.Turn.{Leaves}
use Rattle.machine_values.specs.declared.frames.Frame.{Frame}
use Rattle.machine_values.specs.declared.frames.Purpose.{Purpose}
use Rattle.machine_values.specs.declared.frames.Purpose.TheVariants.{Within}
use Rattle.machine_values.specs.declared.frames.Wait.{Wait}
use Rattle.machine_values.specs.declared.script.Answer.{Answer}
use Rattle.machine_values.specs.declared.state.MachineState.{MachineState}
use Rattle.machine_values.specs.declared.values.Value.{Value}
use Rattle.machine_values.specs.States.{machine_wait}
use Rattle.machine_steps.specs.declared.step.Step.{Step}
use Rattle.machine_steps.specs.declared.step.Step.TheVariants.{NotMine}
use Rattle.machine_steps.specs.Moves.{moved_by}
use Rattle.machine_steps.specs.Programs.{Machine, IsMachine}
use Rattle.machine_steps.specs.Runs.{Runs, Stepped}
use Rattle.machine_invocations.specs.Returning.{result_held}

-- ---- which returns

-- the result goes to a call of the library
abbrev pub is_within : Purpose → Bool
is_within (Within wait) = true
is_within purpose = false

abbrev pub waits_below : Option Frame → Bool
waits_below None = false
waits_below (Some f) = is_within f.purpose

-- a frame runs, and its result goes to a call of the library
abbrev pub brings_text : MachineState → Bool
brings_text state = waits_below (slice_get state.frames.items (length state.frames.items - 1))

-- the step is left to another part of the machine
pub record IsLeft (old new : MachineState) (result : Result Step AllocError) : Type 0 where
  pub step : result ≡ Ok NotMine
  pub same : new ≡ old

-- ---- out of the running frame

-- out of a running frame whose result goes to the call that waits so
abbrev pub MovesWithin : Known → MachineState → MachineState → Step → Wait → Option Value → Type 0
MovesWithin k old new step wait value =
    (m : Machine) (left : List Answer) (t : State Place) (f : turns.Frame Place) (below : List (turns.Frame Place)) → IsMachine k m → Runs m old left t → t.frames ≡ f ∷ below
    → f.purpose ≡ turns.Within (machine_wait m.setting.heads m.methods old.heap.names wait)
    → Stepped m new left step (moved_by (λ x u g. Leaves (result_held x old value) u.world) m t f below)
