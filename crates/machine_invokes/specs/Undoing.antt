-- What an invocation took and changed.
use Rattle.std.specs.Prelude.{◌≡◌, ℕ, suc, ◌≤◌, ◌++◌, Bool, List, [], ◌∷◌, reverse, length, Option, Some, None}
use Rattle.aj_names.specs.declared.ids.ClassId.{ClassId}
use Rattle.machine_values.specs.declared.content.Content.{Content}
use Rattle.machine_values.specs.declared.frames.Frame.{Frame}
use Rattle.machine_values.specs.declared.names.Name.{Name}
use Rattle.machine_values.specs.declared.state.MachineState.{MachineState}
use Rattle.machine_values.specs.declared.values.Local.{Local}
use Rattle.machine_values.specs.declared.values.Ref.{Ref}
use Rattle.machine_values.specs.declared.values.Value.{Value}
use Rattle.machine_values.specs.Stacks.{weight}
use Rattle.machine_values.specs.Things.{Things}
use Rattle.machine_frames.specs.declared.calls.Receiver.TheVariants.{Object, Announced}
use Rattle.machine_frames.specs.Undoing.{receiver_value}
use Rattle.machine_invokes.specs.declared.invocation.Before.{Before}
use Rattle.machine_invokes.specs.declared.invocation.Before.TheVariants.{Arguments, Receiver, Token}
use Rattle.machine_invokes.specs.declared.invocation.Invocation.{Invocation}
use Rattle.machine_invokes.specs.Building.{FillsToken}
use Rattle.machine_invokes.specs.Taking.{Takes}

-- which classes had begun, where others are marked now
abbrev pub AreSaved : MachineState → MachineState → Option (List Bool) → Type 0
AreSaved old new None = new ≡ old
AreSaved old new (Some begun) = (begun ≡ old.begun) × (new ≡ record old { frames = new.frames; begun = new.begun }) × (new.frames.items ≡ old.frames.items)

-- the arguments were taken, and then classes were marked as begun or not
pub record TookArguments (old new : MachineState) (call : Invocation) (saved : Option (List Bool)) : Type 0 where
  pub mid : MachineState
  pub takes : Takes old mid (reverse call.arguments.items)
  pub marked : AreSaved mid new saved

-- the token and the arguments were taken, and then every copy of the token became a new object
pub record TookToken (old new : MachineState) (call : Invocation) (class : ClassId) (number : ℕ) (operands : List Value) (locals : List Local) : Type 0 where
  pub mid : MachineState
  pub takes : Takes old mid (reverse call.arguments.items ++ receiver_value (Announced class number) ∷ [])
  pub at : Ref
  pub receiver : call.receiver ≡ Some at
  pub fills : FillsToken number mid new at operands locals

-- the state was the old one before the invocation
abbrev pub UndoneBy : MachineState → MachineState → Invocation → Before → Type 0
UndoneBy old new call (Arguments saved) = TookArguments old new call saved
UndoneBy old new call Receiver = Takes old new (reverse call.arguments.items ++ receiver_value (Object call.receiver) ∷ [])
UndoneBy old new call (Token class number operands locals) = TookToken old new call class number operands locals

pub record CanUndo (old new : MachineState) (call : Invocation) : Type 0 where
  pub undone : UndoneBy old new call call.before

-- ---- back

-- the frame held these operands and locals before others
pub record IsRefilled (operands : List Value) (locals : List Local) (old new : Frame) : Type 0 where
  pub rest : new ≡ record old { operands = new.operands; locals = new.locals }
  pub room : new.operands.room ≡ old.operands.room
  pub values : old.operands.values ≡ reverse operands
  pub fits : weight old.operands.values ≤ old.operands.room
  pub held : old.locals ≡ locals
  pub count : length new.locals ≡ length old.locals

-- Whatever frame the one of that number was, which held them, it is that one again; nothing else changes.
pub record Refills (index : ℕ) (operands : List Value) (locals : List Local) (old new : MachineState) : Type 0 where
  pub same : new ≡ record old { frames = new.frames }
  pub count : length new.frames.items ≡ length old.frames.items
  pub frames : (below above : List Frame) (f g : Frame) → length below ≡ index → old.frames.items ≡ below ++ g ∷ above → IsRefilled operands locals f g → new.frames.items ≡ below ++ f ∷ above

-- the frame of that number is as it was before the invocation, whatever frames are above it now; nothing else changes
pub record RestoresFrame (index : ℕ) (call : Invocation) (old new : MachineState) : Type 0 where
  pub same : new ≡ record old { frames = new.frames }
  pub frames : (before after : MachineState) (own : List Frame) → CanUndo before after call → old.frames.items ≡ after.frames.items ++ own → length after.frames.items ≡ suc index → new.frames.items ≡ before.frames.items ++ own

-- whatever name and content the last object had, it is no longer there
abbrev pub ForgetsLast : Things → Things → Type 0
ForgetsLast old new = (left : Things) (name : Name) (content : Content) → old.names ≡ left.names ++ name ∷ [] → old.contents ≡ left.contents ++ content ∷ [] → new ≡ left

-- the marks of the classes are the saved ones, and the object of a token is no longer there; the frames stay
abbrev pub TakesBack : MachineState → MachineState → Before → Type 0
TakesBack old new (Arguments None) = new ≡ old
TakesBack old new (Arguments (Some begun)) = new ≡ record old { begun = begun }
TakesBack old new Receiver = new ≡ old
TakesBack old new (Token class number operands locals) = (new ≡ record old { heap = new.heap }) × ForgetsLast old.heap new.heap
