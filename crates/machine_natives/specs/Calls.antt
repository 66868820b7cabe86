-- Calls of native methods.
use Rattle.std.specs.Prelude.{◌≡◌, ℕ, Bool, true, false, List, [], ◌∷◌, map, Option, Some, None}
use Rattle.std.specs.Option.{option_map}
use Rattle.class_world.specs.Tables.{Known}
use Rattle.class_machine.specs.Classes.{Method}
use Rattle.class_machine.specs.ClassFiles.{Place, class_code}
use Rattle.class_machine.specs.Events as events
use Rattle.class_machine.specs.Machine as machines
use Rattle.class_machine.specs.Machine.{State, telling, unwound, moved}
use Rattle.class_machine.specs.Natives.{Response, Lacks, respond, native_event}
use Rattle.class_machine.specs.Turn.{Frame, Finishes, with_receiver, given_back, completes, responded}
use Rattle.class_machine.specs.World as worlds
use Rattle.event_machine.specs.Outcome as outcomes
use Rattle.machine_values.specs.declared.observed.Event.{Event}
use Rattle.machine_values.specs.declared.script.Answer.{Answer}
use Rattle.machine_values.specs.declared.state.MachineState.{MachineState}
use Rattle.machine_values.specs.declared.values.Ref.{Ref}
use Rattle.machine_values.specs.declared.values.Value.{Value}
use Rattle.machine_values.specs.declared.values.Value.TheVariants.{Reference as Pointer}
use Rattle.machine_values.specs.Observed.{machine_event}
use Rattle.machine_values.specs.Standing.{name_of, held}
use Rattle.machine_values.specs.Things.{Things}
use Rattle.machine_requests.specs.Shares.{Others, Shares}
use Rattle.machine_steps.specs.declared.step.Step.{Step}
use Rattle.machine_steps.specs.Executing.{MovesOver}
use Rattle.machine_steps.specs.Moves.{Turning}
use Rattle.machine_steps.specs.Programs.{Machine, IsMachine}
use Rattle.machine_steps.specs.Runs.{Runs, Stepped}
use Rattle.machine_invocations.specs.Methods.{Sees}
use Rattle.machine_invocations.specs.Returning.{result_held}
use Rattle.machine_natives.specs.declared.calling.Called.{Called}
use Rattle.machine_natives.specs.declared.calling.Called.TheVariants.{Done}
use Rattle.machine_natives.specs.declared.calling.Called.TheVariants as called

-- ---- the event

-- the receiver of an instance method is the first value
abbrev pub values_given : Option Ref → List Value → List Value
values_given None given = given
values_given (Some at) given = Pointer at ∷ given

-- whatever world of the machine the heap stands for, the event is that of the call
abbrev pub ShowsCall : Known → Things → ℕ → Option Ref → List Value → Event → Type 0
ShowsCall k things number receiver given event =
    (m : Machine) (others : Others) (w : worlds.World) (callee : Method) → IsMachine k m → Sees k number callee → Shares m.setting things others w
    → machine_event event ≡ native_event w callee.name (with_receiver (option_map (name_of m.setting.heads things.names) receiver) (map (held m.setting.heads things.names) given))

-- ---- the ways on, each with the event

-- the running frame takes the result and goes on behind its call
abbrev pub ComesBack : Known → MachineState → MachineState → Event → Bool → Option Value → Step → Type 0
ComesBack k old new event super value step =
    (m : Machine) (left : List Answer) (t : State Place) (f : Frame Place) (below : List (Frame Place)) → IsMachine k m → Runs m old left t → t.frames ≡ f ∷ below
    → Stepped m new left step (moved (class_code m.files) m.setting.classes t.due
    (given_back (class_code m.files) m.setting.classes f (result_held m old value) f.content (λ all. completes (class_code m.files) m.setting.classes (Some (machine_event event)) super ((class_code m.files).next f.place) all t.world)) t.world f below)

-- the exception goes to the first frame with an entry for it
abbrev pub GoesOut : Known → MachineState → MachineState → Event → Ref → Step → Type 0
GoesOut k old new event x step =
    (m : Machine) (left : List Answer) (t : State Place) (f : Frame Place) (below : List (Frame Place)) → IsMachine k m → Runs m old left t → t.frames ≡ f ∷ below
    → Stepped m new left step (telling (Some (machine_event event)) t.world (unwound (class_code m.files) m.setting.classes t.due (name_of m.setting.heads old.heap.names x) t.world (f ∷ below)))

-- the run ends one step later
abbrev pub EndsScript : MachineState → MachineState → Event → Step → Type 0
EndsScript old new event step =
    (m : Machine) (left : List Answer) (t : State Place) → Runs m old left t
    → Stepped m new left step (outcomes.Said (machine_event event) (record { frames = []; world = t.world; due = machines.Finally events.ScriptEnds }))

-- ---- the turn

-- what the machine makes of the native method, with the receiver and the arguments, which are taken already
abbrev pub calls_native : Method → Option Ref → List Value → Bool → MachineState → Turning
calls_native callee receiver given super old m t f =
    responded (class_code m.files) m.setting.classes f f.content super
    (native_event t.world callee.name (with_receiver (option_map (name_of m.setting.heads old.heap.names) receiver) (map (held m.setting.heads old.heap.names) given)))
    (respond m.setting.classes t.world callee.name)

-- ---- what the call comes to

-- the script has no answer that fits
abbrev pub is_lack : Response → Bool
is_lack Lacks = true
is_lack response = false

-- the script had one, and the step is the machine's
pub record TakesAnswer (k : Known) (old new : MachineState) (before after : List Answer) (callee : Method) (turning : Turning) (step : Step) : Type 0 where
  pub moves : MovesOver k old new before after step turning
  pub fits : (m : Machine) (t : State Place) → IsMachine k m → Runs m old before t → is_lack (respond m.setting.classes t.world callee.name) ≡ false

-- it had none: nothing changed, and the machine ends the run after the event
pub record LacksAnswer (k : Known) (old new : MachineState) (before after : List Answer) (turning : Turning) (event : Event) : Type 0 where
  pub same : new ≡ old
  pub answers : after ≡ before
  pub turn : (m : Machine) (t : State Place) (f : Frame Place) → IsMachine k m → Runs m old before t → turning m t f ≡ Finishes (Some (machine_event event)) events.ScriptEnds

abbrev pub CallsNative : Known → MachineState → MachineState → List Answer → List Answer → Method → Option Ref → List Value → Bool → Called → Type 0
CallsNative k old new before after callee receiver given super (Done step) = TakesAnswer k old new before after callee (calls_native callee receiver given super old) step
CallsNative k old new before after callee receiver given super (called.Lacks event) = LacksAnswer k old new before after (calls_native callee receiver given super old) event
