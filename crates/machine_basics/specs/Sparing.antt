-- Which instructions take memory, by what they do to the running frame and by what they are answered.
use Rattle.std.specs.Prelude.{◌≡◌, ℕ, Bool, true, false, List, ◌∷◌}
use Rattle.class_world.specs.Tables.{Known}
use Rattle.class_machine.specs.Answers.{Reply, Faults, answer}
use Rattle.class_machine.specs.ClassFiles.{Place, class_code}
use Rattle.class_machine.specs.Effect as definition
use Rattle.class_machine.specs.Machine.{State}
use Rattle.class_machine.specs.Operations.{Operation}
use Rattle.class_machine.specs.Turn.{Frame, effect_at}
use Rattle.class_machine.specs.Values as machine
use Rattle.class_machine.specs.World.{World}
use Rattle.machine_values.specs.declared.script.Answer.{Answer}
use Rattle.machine_values.specs.declared.state.MachineState.{MachineState}
use Rattle.machine_requests.specs.Shares.{Shares, others_of}
use Rattle.machine_frames.specs.declared.effect.Effect.{Effect}
use Rattle.machine_frames.specs.declared.effect.Request.{Request}
use Rattle.machine_frames.specs.Effects.{request_in, effect_in}
use Rattle.machine_steps.specs.Giving.{naming_of}
use Rattle.machine_steps.specs.Programs.{Machine, IsMachine}
use Rattle.machine_steps.specs.Runs.{Runs}

-- an array is made, a monitor entered, or an exception comes of the answer
abbrev pub asks_for_memory : definition.Request → Reply → Bool
asks_for_memory (definition.MakeArray named type sizes) r = true
asks_for_memory (definition.EnterMonitor a) r = true
asks_for_memory request (Faults fault) = true
asks_for_memory request r = false

-- an exception is made or thrown, an array made, a monitor entered, an object announced or a method called
abbrev pub needs_memory : Machine → World → definition.Effect Place → Bool
needs_memory m w (definition.On c) = false
needs_memory m w (definition.Jump i c) = false
needs_memory m w (definition.Enter i c) = false
needs_memory m w (definition.Back place c) = false
needs_memory m w (definition.Leave result) = false
needs_memory m w (definition.Unmodelled op) = false
needs_memory m w definition.Broken = false
needs_memory m w (definition.Ask request c) = asks_for_memory request (answer m.setting.classes w request)
needs_memory m w e = true

-- whatever state of the machine with a running frame the state stands for, executing the operation needs memory there
abbrev pub NeedsMemory : Known → MachineState → Operation → Type 0
NeedsMemory k old operation =
    (m : Machine) (left : List Answer) (t : State Place) (f : Frame Place) (below : List (Frame Place)) → IsMachine k m → Runs m old left t → t.frames ≡ f ∷ below
    → needs_memory m t.world (effect_at (class_code m.files) m.setting.classes f operation) ≡ true

-- ---- what the code asks and does

-- whatever world of the machine the heap and the tables stand for, what is asked and answered there takes memory
abbrev pub AsksForMemory : Known → MachineState → Request → Type 0
AsksForMemory k old request =
    (m : Machine) (w : World) → IsMachine k m → Shares m.setting old.heap (others_of old) w
    → asks_for_memory (request_in (naming_of m old) request) (answer m.setting.classes w (request_in (naming_of m old) request)) ≡ true

-- the same of an effect, whatever the frame holds after it
abbrev pub TakesMemory : Known → MachineState → Effect → Type 0
TakesMemory k old e =
    (m : Machine) (w : World) (method : ℕ) (operands : List (machine.Value Place)) (locals : List (machine.Local Place)) → IsMachine k m → Shares m.setting old.heap (others_of old) w
    → needs_memory m w (effect_in (naming_of m old) method e operands locals) ≡ true
