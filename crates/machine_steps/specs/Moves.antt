-- What becomes of a state whose running frame has made its turn.
use Rattle.std.specs.Prelude.{◌≡◌, ℕ, if◌then◌else◌, List, ◌∷◌, None}
use Rattle.class_world.specs.Tables.{Known}
use Rattle.class_machine.specs.declared.kinds.Fault.{Fault}
use Rattle.class_machine.specs.Values.{Name, Held, held_width, Plain, Content, pushed_on, has_room}
use Rattle.class_machine.specs.ClassFiles.{Place, place_in, class_code}
use Rattle.class_machine.specs.Events as events
use Rattle.class_machine.specs.Turn.{Frame, Turn, Raises, stops, stays, fails}
use Rattle.class_machine.specs.Machine as machines
use Rattle.class_machine.specs.Machine.{State, moved}
use Rattle.machine_values.specs.declared.script.Answer.{Answer}
use Rattle.machine_values.specs.declared.state.MachineState.{MachineState}
use Rattle.machine_steps.specs.declared.step.Step.{Step}
use Rattle.machine_steps.specs.Programs.{Machine, IsMachine}
use Rattle.machine_steps.specs.Runs.{Runs, Stepped}

-- a turn of the running frame of a state
abbrev pub Turning : Type 0
Turning = Machine → State Place → Frame Place → Turn Place

-- what the machine makes of the turn
abbrev pub moved_by : Turning → Machine → State Place → Frame Place → List (Frame Place) → machines.Step (State Place)
moved_by turning m t f below = moved (class_code m.files) m.setting.classes t.due (turning m t f) t.world f below

-- Whatever state of the machine with a running frame the old one stood for, the step is what the machine makes of that turn.
abbrev pub Moves : Known → MachineState → MachineState → Step → Turning → Type 0
Moves k old new step turning =
    (m : Machine) (answers : List Answer) (t : State Place) (f : Frame Place) (below : List (Frame Place)) → IsMachine k m → Runs m old answers t → t.frames ≡ f ∷ below
    → Stepped m new answers step (moved_by turning m t f below)

-- ---- turns

-- on at the place, with what the frame holds
abbrev pub goes_on : ℕ → Turning
goes_on pc m t f = stays (class_code m.files) m.setting.classes (place_in f.method pc) f.content t.world

-- the same, with the value on top, where there is room
abbrev pub goes_on_with : (Machine → State Place → Held) → ℕ → Turning
goes_on_with value pc m t f =
    if has_room f.room (held_width (value m t)) f.content.operands
    then stays (class_code m.files) m.setting.classes (place_in f.method pc) (pushed_on (Plain (value m t)) f.content) t.world else stops events.Broken

-- An exception leaves the frame's operands; what they are doesn't matter, but what its locals hold does.
abbrev pub MovesWithLocals : Known → MachineState → MachineState → Step → (Content Place → Turning) → Type 0
MovesWithLocals k old new step turning =
    (m : Machine) (answers : List Answer) (t : State Place) (f : Frame Place) (below : List (Frame Place)) (c : Content Place)
    → IsMachine k m → Runs m old answers t → t.frames ≡ f ∷ below → c.locals ≡ f.content.locals → Stepped m new answers step (moved_by (turning c) m t f below)

-- the machine makes an exception
abbrev pub faults : Fault → Content Place → Turning
faults fault c m t f = fails (class_code m.files) m.setting.classes fault c t.world

-- an exception is thrown
abbrev pub raises : (Machine → Name) → Content Place → Turning
raises x c m t f = Raises None (x m) c t.world
