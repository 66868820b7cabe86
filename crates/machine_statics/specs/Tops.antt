-- The running frame, which comes last, and what it holds.
use Rattle.std.specs.Prelude.{◌≡◌, ℕ, ◌⊎◌, Bool, true, List, [], ◌∷◌, ◌++◌}
use Rattle.std.specs.Bool.{MatchBool}
use Rattle.class_machine.specs.declared.kinds.Access.TheVariants as access
use Rattle.class_machine.specs.declared.kinds.Kind.{Kind}
use Rattle.class_machine.specs.Values.{has_room, kind_width}
use Rattle.machine_values.specs.declared.frames.Frame.{Frame}
use Rattle.machine_values.specs.declared.state.MachineState.{MachineState}
use Rattle.machine_values.specs.declared.values.Value.{Value}
use Rattle.machine_values.specs.Stacks.{Stack}
use Rattle.machine_values.specs.Standing.{is_settled}
use Rattle.machine_values.specs.States.{is_known, IsFrameWithin}
use Rattle.machine_frames.specs.Effects.{operands_of}
use Rattle.machine_frames.specs.Named.{AccessBreaks, PutsStatic}
use Rattle.machine_frames.specs.Naming.{Naming}
use Rattle.machine_frames.specs.Operands.{Pushes, Overflows}
use Rattle.machine_frames.specs.Peeks as peeks
use Rattle.machine_steps.specs.Running.{Turned}

-- the running frame has room for a value of the kind or not
abbrev pub TellsRoom : MachineState → Kind → Bool → Type 0
TellsRoom state kind has =
    (rest : List Frame) (g : Frame) → state.frames.items ≡ rest ++ g ∷ [] → (n : Naming) → has_room g.operands.room (kind_width kind) (operands_of n g) ≡ has

-- `putstatic` of a field of the kind breaks the run or not
abbrev pub TellsPut : MachineState → Kind → Bool → Type 0
TellsPut state kind can = (rest : List Frame) (g : Frame) → state.frames.items ≡ rest ++ g ∷ [] → peeks.TellsPut kind g can

abbrev pub with_operands : Frame → Stack → Frame
with_operands g s = record g { operands = s }

-- the value of the kind was taken from the running frame
pub record TakesTop (old : MachineState) (kind : Kind) (new : MachineState) (v : Value) : Type 0 where
  pub rest : List Frame
  pub frame : Frame
  pub operands : Stack
  pub turned : Turned old new rest frame (with_operands frame operands)
  pub room : operands.room ≡ frame.operands.room
  pub puts : PutsStatic kind frame v (with_operands frame operands)
  pub within : (count : ℕ) → IsFrameWithin count frame → IsFrameWithin count (with_operands frame operands)
  pub known : (count : ℕ) → IsFrameWithin count frame → is_settled count v ≡ true

-- no value of the kind is on top; what the frame holds may have changed
pub record LacksTop (old : MachineState) (kind : Kind) (new : MachineState) : Type 0 where
  pub rest : List Frame
  pub frame : Frame
  pub operands : Stack
  pub turned : Turned old new rest frame (with_operands frame operands)
  pub breaks : AccessBreaks access.PutStatic kind frame

-- no frame runs
pub record IsIdle (old new : MachineState) : Type 0 where
  pub none : old.frames.items ≡ []
  pub same : new ≡ old

-- the value was put on top of the running frame's operands
pub record PutOn (old : MachineState) (v : Value) (new : MachineState) : Type 0 where
  pub rest : List Frame
  pub frame : Frame
  pub operands : Stack
  pub turned : Turned old new rest frame (with_operands frame operands)
  pub room : operands.room ≡ frame.operands.room
  pub pushes : Pushes frame.operands v operands
  pub within : (count : ℕ) → is_known count v ≡ true → IsFrameWithin count frame → IsFrameWithin count (with_operands frame operands)

-- there was no room for it
pub record IsFull (old : MachineState) (v : Value) (new : MachineState) : Type 0 where
  pub rest : List Frame
  pub frame : Frame
  pub operands : Stack
  pub turned : Turned old new rest frame (with_operands frame operands)
  pub full : Overflows frame.operands v

abbrev pub PutsOn : MachineState → Value → MachineState → Bool → Type 0
PutsOn old v new done = MatchBool done (PutOn old v new) (IsIdle old new ⊎ IsFull old v new)
