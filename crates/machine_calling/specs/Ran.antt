-- What running a method comes to.
use Rattle.std.specs.Prelude.{◌≡◌, ◌&&◌, not, Bool, true, false, List, ◌∷◌, ◌++◌, Some}
use Rattle.class_world.specs.Tables.{Known}
use Rattle.class_machine.specs.Classes.{Method}
use Rattle.class_machine.specs.ClassFiles.{Place, class_code}
use Rattle.class_machine.specs.Events.{ScriptEnds}
use Rattle.class_machine.specs.Machine.{State}
use Rattle.class_machine.specs.Turn as turns
use Rattle.class_machine.specs.Turn.{Turn, Finishes, is_frameless, has_result_room}
use Rattle.class_machine.specs.World.{World}
use Rattle.machine_values.specs.declared.frames.Frame.{Frame}
use Rattle.machine_values.specs.declared.frames.Purpose.{Purpose}
use Rattle.machine_values.specs.declared.frames.Purpose.TheVariants.{Constructs}
use Rattle.machine_values.specs.declared.observed.Event.{Event}
use Rattle.machine_values.specs.declared.script.Answer.{Answer}
use Rattle.machine_values.specs.declared.state.MachineState.{MachineState}
use Rattle.machine_values.specs.Observed.{machine_event}
use Rattle.machine_requests.specs.Replies.{IsLonger}
use Rattle.machine_steps.specs.declared.step.Step.{Step}
use Rattle.machine_steps.specs.Executing.{MovesOver}
use Rattle.machine_steps.specs.Moves.{Turning}
use Rattle.machine_steps.specs.Programs.{Machine, IsMachine}
use Rattle.machine_steps.specs.Runs.{Runs}
use Rattle.machine_invokes.specs.Preparing.{is_own}
use Rattle.machine_calling.specs.declared.ran.Ran.{Ran}
use Rattle.machine_calling.specs.declared.ran.Ran.TheVariants.{Done, Begins, Lacks}

-- ---- what is known beforehand

-- a method without a frame has room for its result in the running frame
abbrev pub HasRoom : Known → MachineState → List Answer → Method → Type 0
HasRoom k state left callee =
    (m : Machine) (t : State Place) (f : turns.Frame Place) (below : List (turns.Frame Place)) → IsMachine k m → Runs m state left t → t.frames ≡ f ∷ below
    → (is_frameless callee && not (has_result_room (class_code m.files) m.setting.classes f f.content callee)) ≡ false

-- a this or super call of a constructor
abbrev pub constructs : Purpose → Bool
constructs Constructs = true
constructs purpose = false

-- ---- the step is done

-- the step is what the machine makes of the turn, which doesn't hang on what the frame held before the instruction
pub record Goes (k : Known) (old new : MachineState) (before after : List Answer) (step : Step) (turning : Turning) : Type 0 where
  pub moves : MovesOver k old new before after step turning
  pub own : (m : Machine) (t : State Place) (f : turns.Frame Place) (below : List (turns.Frame Place)) → IsMachine k m → Runs m old before t → t.frames ≡ f ∷ below → is_own (turning m t f) ≡ true

-- ---- initialisers come first

-- the turn is that, and the new state has their frames on top
pub record BeginsIn (m : Machine) (new : MachineState) (left : List Answer) (t : State Place) (turn : Turn Place) : Type 0 where
  pub frames : List (turns.Frame Place)
  pub world : World
  pub same : turn ≡ turns.Begins frames world
  pub runs : Runs m new left (record t { frames = frames ++ t.frames; world = world })

pub record BeginsFirst (k : Known) (old new : MachineState) (before after : List Answer) (turning : Turning) : Type 0 where
  pub own : List Frame
  pub frames : new.frames.items ≡ old.frames.items ++ own
  pub same : new ≡ record old { frames = new.frames; begun = new.begun; heap = new.heap }
  pub names : IsLonger old.heap new.heap
  pub answers : after ≡ before
  pub there : (m : Machine) (t : State Place) (f : turns.Frame Place) (below : List (turns.Frame Place)) → IsMachine k m → Runs m old before t → t.frames ≡ f ∷ below → BeginsIn m new before t (turning m t f)

-- ---- the script ends

pub record LacksAnswer (k : Known) (old new : MachineState) (before after : List Answer) (event : Event) (turning : Turning) : Type 0 where
  pub same : new ≡ old
  pub answers : after ≡ before
  pub turn : (m : Machine) (t : State Place) (f : turns.Frame Place) (below : List (turns.Frame Place)) → IsMachine k m → Runs m old before t → t.frames ≡ f ∷ below → turning m t f ≡ Finishes (Some (machine_event event)) ScriptEnds

-- ---- each of them

abbrev pub RanBy : Known → MachineState → MachineState → List Answer → List Answer → Turning → Ran → Type 0
RanBy k old new before after turning (Done step) = Goes k old new before after step turning
RanBy k old new before after turning Begins = BeginsFirst k old new before after turning
RanBy k old new before after turning (Lacks event) = LacksAnswer k old new before after event turning

abbrev pub is_done : Ran → Bool
is_done (Done step) = true
is_done ran = false
