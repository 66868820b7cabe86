-- What is taken from the operands of the running frame.
use Rattle.std.specs.Prelude.{◌≡◌, ℕ, ◌-◌, ◌<◌, ℤ, List, ◌∷◌, length, slice_get, Some}
use Rattle.std.specs.Vec.{with_item}
use Rattle.class_file.specs.Pool.{Reference}
use Rattle.class_machine.specs.declared.kinds.Access.{Access}
use Rattle.class_machine.specs.declared.kinds.Kind.{Kind}
use Rattle.class_machine.specs.ClassFiles.{Place}
use Rattle.class_machine.specs.Effect as definition
use Rattle.class_machine.specs.Machine.{State}
use Rattle.class_machine.specs.Turn as turns
use Rattle.machine_frames.specs.Effects.{Form, operands_of, locals_of}
use Rattle.machine_frames.specs.Named.{content_of}
use Rattle.machine_frames.specs.Naming.{Naming}
use Rattle.machine_frames.specs.Undoing.{IsTaken}
use Rattle.machine_values.specs.declared.frames.Frame.{Frame}
use Rattle.machine_values.specs.declared.script.Answer.{Answer}
use Rattle.machine_values.specs.declared.state.MachineState.{MachineState}
use Rattle.machine_values.specs.declared.values.Value.{Value}
use Rattle.machine_values.specs.States.{IsFrameWithin}
use Rattle.machine_steps.specs.Programs.{Machine}
use Rattle.machine_steps.specs.Runs.{Runs}

-- what an instruction does to operands and locals, by the room of the operands
abbrev pub RoomForm : Type 0
RoomForm = ℕ → Form

-- an access of a field of the kind
abbrev pub access_form : Access → Reference → Kind → RoomForm
access_form how r kind room ops ls = definition.access_field room how r kind ops ls

-- whatever state of the machine with a running frame the state stands for, the frame breaks the run
abbrev pub Breaks : RoomForm → MachineState → Type 0
Breaks form old =
    (m : Machine) (left : List Answer) (t : State Place) (f : turns.Frame Place) (below : List (turns.Frame Place)) → Runs m old left t → t.frames ≡ f ∷ below
    → form f.room f.content.operands f.content.locals ≡ definition.Broken

-- the values were taken from the operands of the running frame, the topmost first; the other frames are the same
pub record IsTakenFrom (vs : List Value) (old new : MachineState) : Type 0 where
  pub frame : Frame
  pub left : Frame
  pub some : 0 < length old.frames.items
  pub there : slice_get old.frames.items (length old.frames.items - 1) ≡ Some frame
  pub set : new.frames ≡ with_item old.frames (length old.frames.items - 1) left
  pub taken : IsTaken frame vs left
  pub within : (count : ℕ) → IsFrameWithin count frame → IsFrameWithin count left

-- the values were taken, nothing else changed, and the request is what the instruction asks then
pub record Takes (form : RoomForm) (request : Naming → definition.Request) (vs : List Value) (old new : MachineState) : Type 0 where
  pub from : IsTakenFrom vs old new
  pub same : new ≡ record old { frames = new.frames }
  pub asks : (n : Naming) → form from.frame.operands.room (operands_of n from.frame) (locals_of n from.frame) ≡ definition.Ask (request n) (content_of n from.left)

-- the int was taken, and selects among keys
pub record Switches (x : ℤ) (old new : MachineState) : Type 0 where
  pub frame : Frame
  pub left : Frame
  pub some : 0 < length old.frames.items
  pub there : slice_get old.frames.items (length old.frames.items - 1) ≡ Some frame
  pub set : new.frames ≡ with_item old.frames (length old.frames.items - 1) left
  pub rest : left ≡ record frame { operands = left.operands }
  pub room : left.operands.room ≡ frame.operands.room
  pub within : (count : ℕ) → IsFrameWithin count frame → IsFrameWithin count left
  pub same : new ≡ record old { frames = new.frames }
  pub jumps : (n : Naming) (keys : List ℤ) → definition.switch keys (operands_of n frame) (locals_of n frame) ≡ definition.Jump (definition.key_target keys x 1) (content_of n left)
