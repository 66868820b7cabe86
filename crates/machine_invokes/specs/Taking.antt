-- What invocations take from the running frame of a state.
use Rattle.std.specs.Prelude.{◌≡◌, ℕ, ◌++◌, List, [], ◌∷◌, reverse, length}
use Rattle.class_machine.specs.declared.kinds.Kind.{Kind}
use Rattle.machine_values.specs.declared.frames.Frame.{Frame}
use Rattle.machine_values.specs.declared.state.MachineState.{MachineState}
use Rattle.machine_values.specs.declared.values.Value.{Value}
use Rattle.machine_values.specs.States.{IsFrameWithin}
use Rattle.machine_frames.specs.declared.calls.Receiver.{Receiver}
use Rattle.machine_frames.specs.Calls.{CallsStatic, StaticCallBreaks, CallsOn, CallBreaks, AreSettledIn, IsKnownReceiver}
use Rattle.machine_frames.specs.Undoing.{receiver_value, IsTaken}
use Rattle.machine_steps.specs.Giving.{with_values}
use Rattle.machine_steps.specs.Running.{Turned}

-- the frames are the same, and nothing else changed
pub record IsPutBack (old new : MachineState) : Type 0 where
  pub same : new ≡ record old { frames = new.frames }
  pub items : new.frames.items ≡ old.frames.items

-- the running frame has these operands left; what was taken, the topmost first
pub record Takes (old new : MachineState) (vs : List Value) : Type 0 where
  pub rest : List Frame
  pub before : Frame
  pub left : List Value
  pub turned : Turned old new rest before (with_values before left)
  pub taken : IsTaken before vs (with_values before left)
  pub within : (count : ℕ) → IsFrameWithin count before → IsFrameWithin count (with_values before left)

pub record TakesStatic (kinds : List Kind) (old : MachineState) (given : List Value) (new : MachineState) : Type 0 where
  pub takes : Takes old new (reverse given)
  pub calls : CallsStatic kinds takes.before given (with_values takes.before takes.left)
  pub settled : AreSettledIn takes.before.operands given

pub record TakesOn (kinds : List Kind) (old : MachineState) (receiver : Receiver) (given : List Value) (new : MachineState) : Type 0 where
  pub takes : Takes old new (reverse given ++ receiver_value receiver ∷ [])
  pub calls : CallsOn kinds takes.before receiver given (with_values takes.before takes.left)
  pub settled : AreSettledIn takes.before.operands given
  pub known : IsKnownReceiver takes.before.operands receiver

-- the running frame breaks the run; the frame that it is then has the same method
pub record StaticTakeBreaks (kinds : List Kind) (old new : MachineState) : Type 0 where
  pub rest : List Frame
  pub before : Frame
  pub after : Frame
  pub turned : Turned old new rest before after
  pub method : after.method ≡ before.method
  pub breaks : StaticCallBreaks kinds before

pub record TakeBreaks (kinds : List Kind) (old new : MachineState) : Type 0 where
  pub rest : List Frame
  pub before : Frame
  pub after : Frame
  pub turned : Turned old new rest before after
  pub method : after.method ≡ before.method
  pub breaks : CallBreaks kinds before

-- ---- back

-- Whatever frame the one of that number was, from which the values were taken, it is that one again; nothing else changes.
pub record PutsBack (index : ℕ) (vs : List Value) (old new : MachineState) : Type 0 where
  pub same : new ≡ record old { frames = new.frames }
  pub count : length new.frames.items ≡ length old.frames.items
  pub frames : (below above : List Frame) (f g : Frame) → length below ≡ index → old.frames.items ≡ below ++ g ∷ above → IsTaken f vs g → new.frames.items ≡ below ++ f ∷ above
