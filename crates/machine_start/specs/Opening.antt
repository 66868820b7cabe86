-- The first state of a run.
use Rattle.std.specs.Prelude.{ℕ, false, List, [], map, replicate, None}
use Rattle.class_world.specs.Tables.{Known}
use Rattle.class_machine.specs.ClassFiles.{Place, class_code}
use Rattle.class_machine.specs.Classes.{Method}
use Rattle.class_machine.specs.Machine as machines
use Rattle.class_machine.specs.Machine.{State}
use Rattle.class_machine.specs.Start as starts
use Rattle.class_machine.specs.Start.{EntryArgument, first_world}
use Rattle.class_machine.specs.World.{World}
use Rattle.machine_values.specs.declared.script.Answer.{Answer}
use Rattle.machine_values.specs.declared.script.Entry.{Entry}
use Rattle.machine_values.specs.declared.state.MachineState.{MachineState}
use Rattle.machine_values.specs.declared.values.Value.{Value}
use Rattle.machine_values.specs.Observed.{machine_answer}
use Rattle.machine_values.specs.Standing.{held}
use Rattle.machine_values.specs.Things.{Things}
use Rattle.machine_requests.specs.Shares.{Others}
use Rattle.machine_steps.specs.Programs.{Machine, IsMachine}
use Rattle.machine_steps.specs.Runs.{Runs}
use Rattle.machine_invocations.specs.Initialising.{begun_state}
use Rattle.machine_invocations.specs.Methods.{Sees}
use Rattle.machine_natives.specs.Throwables.{Holds}
use Rattle.machine_start.specs.Arguments.{argument_of}

-- ---- before the entry

-- no frame is there, and nothing is due
abbrev pub idle : World → State Place
idle w = record { frames = []; world = w; due = machines.Nothing }

-- no static field was stored to, no class has begun, and no monitor was entered
abbrev pub unused : ℕ → ℕ → Others
unused fields classes = record { statics = replicate fields None; begun = replicate classes false; monitors = [] }

-- the heap has the object of System.out, and no other
abbrev pub HasOutput : Known → Things → Type 0
HasOutput k things =
    (m : Machine) (fields classes : ℕ) (left : List Answer) → IsMachine k m → Holds m things (unused fields classes) (first_world (map machine_answer left))

abbrev pub IsFirstState : Known → MachineState → Type 0
IsFirstState k state = (m : Machine) (left : List Answer) → IsMachine k m → Runs m state left (idle (first_world (map machine_answer left)))

-- ---- at the entry

-- Whatever world the state stood for, with no frame and nothing due, it then stands for what the machine makes of that.
abbrev pub Opens : Known → MachineState → MachineState → (Machine → World → State Place) → Type 0
Opens k old new opening = (m : Machine) (left : List Answer) (w : World) → IsMachine k m → Runs m old left (idle w) → Runs m new left (opening m w)

-- with the initialisers of the class that declares the method
abbrev pub Triggers : Known → MachineState → MachineState → Method → Type 0
Triggers k old new callee =
    (m : Machine) (left : List Answer) (t : State Place) → IsMachine k m → Runs m old left t → Runs m new left (begun_state m t callee.name.class)

-- a native method, with its arguments
abbrev pub natively : Method → List Value → MachineState → Machine → World → State Place
natively callee given old m w =
    starts.above (class_code m.files) m.setting.classes w callee [] (machines.NativeEntry callee.name (map (held m.setting.heads old.heap.names) given))

-- another method, with its arguments
abbrev pub by_code : Method → List Value → MachineState → Machine → World → State Place
by_code callee given old m w =
    starts.at_entry (class_code m.files) m.setting.classes callee (map (held m.setting.heads old.heap.names) given) w ((class_code m.files).method callee.name)

-- ---- the whole

-- whatever the script answers, the state is the first one of a run at the method
abbrev pub Starts : Known → Entry → MachineState → Type 0
Starts k entry state =
    (m : Machine) (left : List Answer) (callee : Method) → IsMachine k m → Sees k entry.method.0 callee
    → Runs m state left (starts.start (class_code m.files) m.setting.classes (map machine_answer left) callee (map argument_of entry.args))
