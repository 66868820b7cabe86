-- Which of the core's instructions may take memory.
use Rattle.std.specs.Prelude.{◌≡◌, ℕ, Bool, true, false, List, ◌∷◌, Some}
use Rattle.class_file.specs.declared.pool.PoolEntry.{PoolEntry}
use Rattle.class_world.specs.Tables.{Known}
use Rattle.class_machine.specs.ClassFiles.{Place, class_code}
use Rattle.class_machine.specs.Machine.{State}
use Rattle.class_machine.specs.Operations.{Operation, Do, Switch}
use Rattle.class_machine.specs.Turn.{Frame, effect_at}
use Rattle.class_machine.specs.World.{World}
use Rattle.machine_code.specs.declared.operation.Operation as code
use Rattle.machine_code.specs.Operations.{seen}
use Rattle.machine_values.specs.declared.script.Answer.{Answer}
use Rattle.machine_values.specs.declared.state.MachineState.{MachineState}
use Rattle.machine_steps.specs.Programs.{Machine, IsMachine}
use Rattle.machine_steps.specs.Runs.{Runs}
use Rattle.machine_basics.specs.Sparing.{needs_memory}

-- What names nothing in the constant pool needs memory where executing it makes an array, enters a monitor, or makes or throws
-- an exception. A switch never does, and all else may.
abbrev pub needs_memory_at : Machine → World → Frame Place → Operation → Bool
needs_memory_at m w f (Do basic) = needs_memory m w (effect_at (class_code m.files) m.setting.classes f (Do basic))
needs_memory_at m w f (Switch keys) = false
needs_memory_at m w f operation = true

-- whatever state of the machine with a running frame the state stands for, the instruction at the frame's place may need memory
abbrev pub MayNeed : Known → MachineState → Type 0
MayNeed k old =
    (m : Machine) (left : List Answer) (t : State Place) (f : Frame Place) (below : List (Frame Place)) (operation : Operation) → IsMachine k m → Runs m old left t → t.frames ≡ f ∷ below
    → (class_code m.files).line f.place ≡ Some operation → needs_memory_at m t.world f operation ≡ true

-- the same of an instruction that the code has so: whatever operation it is under the pool
abbrev pub MayNeedBy : Known → MachineState → List PoolEntry → code.Operation → Type 0
MayNeedBy k old pool form =
    (bytes : List ℕ) (operation : Operation) → seen pool bytes form ≡ Some operation
    → (m : Machine) (left : List Answer) (t : State Place) (f : Frame Place) (below : List (Frame Place)) → IsMachine k m → Runs m old left t → t.frames ≡ f ∷ below → needs_memory_at m t.world f operation ≡ true
