-- The instruction at the running frame's place, and what a part of the machine makes of it.
use Rattle.std.specs.Prelude.{◌≡◌, ℕ, ◌<◌, Bool, true, false, List, ◌∷◌, length, Option, Some}
use Rattle.class_file.specs.declared.pool.PoolEntry.{PoolEntry}
use Rattle.class_world.specs.Tables.{Known}
use Rattle.class_machine.specs.ClassFiles.{Place, class_code}
use Rattle.class_machine.specs.Machine.{State}
use Rattle.class_machine.specs.Operations.{Operation}
use Rattle.class_machine.specs.Turn.{Frame}
use Rattle.machine_code.specs.declared.operation.Operation as code
use Rattle.machine_code.specs.Operations.{seen}
use Rattle.machine_values.specs.declared.script.Answer.{Answer}
use Rattle.machine_values.specs.declared.state.MachineState.{MachineState}
use Rattle.machine_steps.specs.declared.step.Step.{Step}
use Rattle.machine_steps.specs.declared.step.Step.TheVariants.{NotMine}
use Rattle.machine_steps.specs.Executing.{executes}
use Rattle.machine_steps.specs.Moves.{moved_by}
use Rattle.machine_steps.specs.Parts.{Part, is_part, part_of_operation}
use Rattle.machine_steps.specs.Programs.{Machine, IsMachine}
use Rattle.machine_steps.specs.Runs.{Runs, Stepped}

-- the state stands for some state of a machine of the world
pub record StandsForOne (k : Known) (state : MachineState) : Type 0 where
  pub machine : Machine
  pub left : List Answer
  pub there : State Place
  pub is : IsMachine k machine
  pub runs : Runs machine state left there

-- ---- what stands at the running frame's place

-- whatever state of the machine with a running frame the state stands for, that instruction stands at the frame's place, or none
abbrev pub HasLine : Known → MachineState → Option Operation → Type 0
HasLine k state line =
    (m : Machine) (left : List Answer) (t : State Place) (f : Frame Place) (below : List (Frame Place)) → IsMachine k m → Runs m state left t → t.frames ≡ f ∷ below
    → (class_code m.files).line f.place ≡ line

-- the instruction stands there, as the code has it under the pool
pub record IsAt (k : Known) (state : MachineState) (pool : List PoolEntry) (form : code.Operation) : Type 0 where
  pub some : 0 < length state.frames.items
  pub bytes : List ℕ
  pub operation : Operation
  pub is : seen pool bytes form ≡ Some operation
  pub stands : HasLine k state (Some operation)

-- ---- what a part makes of it

-- the part's instruction is executed, and any other one is left
abbrev pub Executes : Bool → Machine → MachineState → MachineState → List Answer → List Answer → Step → State Place → Frame Place → List (Frame Place) → Operation → Type 0
Executes true m old new before after step t f below operation = Stepped m new after step (moved_by (executes operation) m t f below)
Executes false m old new before after step t f below operation = (step ≡ NotMine) × (new ≡ old) × (after ≡ before)

-- whatever state of the machine with a running frame the old one stood for
abbrev pub TakesLine : Part → Known → MachineState → MachineState → List Answer → List Answer → Step → Operation → Type 0
TakesLine part k old new before after step operation =
    (m : Machine) (t : State Place) (f : Frame Place) (below : List (Frame Place)) → IsMachine k m → Runs m old before t → t.frames ≡ f ∷ below
    → Executes (is_part (part_of_operation m.files m.setting.classes f operation) part) m old new before after step t f below operation

-- the same, where the code has the instruction so and it stands there: whatever operation it is under the pool
abbrev pub TakesForm : Part → Known → MachineState → MachineState → List Answer → List Answer → Step → List PoolEntry → code.Operation → Type 0
TakesForm part k old new before after step pool form =
    (bytes : List ℕ) (operation : Operation) → seen pool bytes form ≡ Some operation → HasLine k old (Some operation) → TakesLine part k old new before after step operation
