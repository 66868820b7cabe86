-- What becomes of a frame's result (JVMS 3.6.4).
use Rattle.std.specs.Prelude.{◌≡◌, ℕ, Bool, true, false, if◌then◌else◌, List, ◌∷◌, Option, Some, None}
use Rattle.std.specs.Option.{option_map}
use Rattle.class_world.specs.Tables.{Known}
use Rattle.class_machine.specs.ClassFiles.{Place, class_code}
use Rattle.class_machine.specs.Machine.{State, taking}
use Rattle.class_machine.specs.Turn.{Purpose, Ordinary, Constructs, Within, Frame, Leaves}
use Rattle.class_machine.specs.Values.{Held}
use Rattle.machine_values.specs.declared.frames.Frame as kept
use Rattle.machine_values.specs.declared.script.Answer.{Answer}
use Rattle.machine_values.specs.declared.state.MachineState.{MachineState}
use Rattle.machine_values.specs.declared.values.Value.{Value}
use Rattle.machine_values.specs.Standing.{held, Settled}
use Rattle.machine_steps.specs.declared.step.Step.{Step}
use Rattle.machine_steps.specs.Moves.{Turning, moved_by, goes_on, goes_on_with}
use Rattle.machine_steps.specs.Programs.{Machine, IsMachine}
use Rattle.machine_steps.specs.Running.{Turned}
use Rattle.machine_steps.specs.Runs.{Runs, Stepped}

-- a result that names objects there are, or none
abbrev pub IsSettledResult : ℕ → Option Value → Type 0
IsSettledResult count None = Unit {0}
IsSettledResult count (Some v) = Settled count v

abbrev pub result_held : Machine → MachineState → Option Value → Option Held
result_held m state value = option_map (held m.setting.heads state.heap.names) value

abbrev pub purpose_back : Bool → Purpose
purpose_back super = if super then Constructs else Ordinary

-- the frame that waits at its call takes the result, that of a this or super call or of another one
abbrev pub takes_back : Bool → Option Value → MachineState → Turning
takes_back super value old m t f = taking (class_code m.files) m.setting.classes (purpose_back super) (result_held m old value) t.world f

-- the running frame goes on at the place, with the result on top if there is one
abbrev pub goes_with : Option Value → MachineState → ℕ → Turning
goes_with None old pc = goes_on pc
goes_with (Some v) old pc = goes_on_with (λ m t. held m.setting.heads old.heap.names v) pc

-- the running frame is one whose this or super call has returned, and nothing else changed
pub record MarksConstructed (old new : MachineState) : Type 0 where
  pub rest : List kept.Frame
  pub frame : kept.Frame
  pub turned : Turned old new rest frame (record frame { constructed = true })

-- ---- out of the running frame

-- the result doesn't go to a call of the library
abbrev pub is_within : Purpose → Bool
is_within (Within wait) = true
is_within _ = false

-- Out of the running frame with the result, where it doesn't go to a call of the library.
abbrev pub MovesOut : Known → MachineState → MachineState → Step → Option Value → Type 0
MovesOut k old new step value =
    (m : Machine) (left : List Answer) (t : State Place) (f : Frame Place) (below : List (Frame Place)) → IsMachine k m → Runs m old left t → t.frames ≡ f ∷ below → is_within f.purpose ≡ false
    → Stepped m new left step (moved_by (λ x u g. Leaves (result_held x old value) u.world) m t f below)
