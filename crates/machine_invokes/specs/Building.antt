-- New objects for tokens.
use Rattle.std.specs.Prelude.{◌≡◌, ℕ, ◌<◌, Bool, true, false, List, [], ◌∷◌, ◌++◌, map, reverse, length, Some}
use Rattle.class_heads.specs.Hierarchy.{name_at}
use Rattle.class_world.specs.Tables.{Known}
use Rattle.class_machine.specs.Values as machine
use Rattle.class_machine.specs.Values.{filled_in, filled_local}
use Rattle.class_machine.specs.World.{World}
use Rattle.machine_values.specs.declared.content.Content.{Content}
use Rattle.machine_values.specs.declared.frames.Frame.{Frame}
use Rattle.machine_values.specs.declared.names.Name.{Name}
use Rattle.machine_values.specs.declared.state.MachineState.{MachineState}
use Rattle.machine_values.specs.declared.values.Local.{Local}
use Rattle.machine_values.specs.declared.values.Ref.{Ref}
use Rattle.machine_values.specs.declared.values.Value.{Value}
use Rattle.machine_values.specs.States.{IsFrameWithin}
use Rattle.machine_values.specs.Things.{Things}
use Rattle.machine_frames.specs.Effects.{operands_of, locals_of}
use Rattle.machine_frames.specs.Naming.{Naming, object}
use Rattle.machine_requests.specs.Objects.{IsNew, AreFilled}
use Rattle.machine_requests.specs.Shares.{Others, Shares}
use Rattle.aj_names.specs.declared.ids.ClassId.{ClassId}
use Rattle.aj_names.specs.declared.ids.MethodId.{MethodId}
use Rattle.machine_values.specs.declared.frames.Purpose.TheVariants.{Ordinary}
use Rattle.machine_values.specs.declared.observed.Ending.TheVariants.{Broken}
use Rattle.machine_steps.specs.declared.step.Step.{Step}
use Rattle.machine_steps.specs.declared.step.Step.TheVariants.{Ended}
use Rattle.machine_steps.specs.Programs.{Machine, IsMachine}
use Rattle.machine_invokes.specs.declared.invocation.Before.TheVariants.{Token}
use Rattle.machine_invokes.specs.declared.invocation.Invocation.{Invocation}
use Rattle.machine_invokes.specs.declared.invocation.Prepared.{Prepared}
use Rattle.machine_invokes.specs.declared.invocation.Prepared.TheVariants.{Done, Runs as IsToRun}
use Rattle.machine_invokes.specs.Choosing.{LacksRoom}

-- the object is at the next place
pub record IsAdded (before after : Things) (at : Ref) : Type 0 where
  pub place : at.0 ≡ length before.names
  pub name : Name
  pub content : Content
  pub names : after.names ≡ before.names ++ name ∷ []
  pub contents : after.contents ≡ before.contents ++ content ∷ []

-- whatever world of the machine the heap stood for, the object is the machine's new one of the class
pub record IsMade (k : Known) (class : ℕ) (before after : Things) (at : Ref) : Type 0 where
  pub there : (m : Machine) (others : Others) (w : World) → IsMachine k m → Shares m.setting before others w → IsNew m.setting (name_at k.heads class) w after others at
  pub filled : (m : Machine) (others : Others) (w : World) → IsMachine k m → Shares m.setting before others w → AreFilled before m.setting → AreFilled after m.setting

-- every copy of the token of this number became the object
pub record IsFilled (number : ℕ) (at : Ref) (old new : Frame) : Type 0 where
  pub rest : new ≡ record old { operands = new.operands; locals = new.locals }
  pub room : new.operands.room ≡ old.operands.room
  pub operands : (n : Naming) → operands_of n new ≡ map (filled_in number (machine.Reference (object n at))) (operands_of n old)
  pub locals : (n : Naming) → locals_of n new ≡ map (filled_local number (machine.Reference (object n at))) (locals_of n old)
  pub within : (count : ℕ) → at.0 < count → IsFrameWithin count old → IsFrameWithin count new

-- the running frame with the object; what it held before
pub record FillsFrame (number : ℕ) (at : Ref) (operands : List Value) (locals : List Local) (new : MachineState) (rest : List Frame) (before : Frame) : Type 0 where
  pub after : Frame
  pub are : new.frames.items ≡ rest ++ after ∷ []
  pub filled : IsFilled number at before after
  pub operands_were : before.operands.values ≡ reverse operands
  pub locals_were : before.locals ≡ locals

-- the same, where the object is a new one
pub record FillsToken (number : ℕ) (old new : MachineState) (at : Ref) (operands : List Value) (locals : List Local) : Type 0 where
  pub added : IsAdded old.heap new.heap at
  pub same : new ≡ record old { frames = new.frames; heap = new.heap }
  pub frames : (rest : List Frame) (before : Frame) → old.frames.items ≡ rest ++ before ∷ [] → FillsFrame number at operands locals new rest before

-- ---- the constructor

-- whether there is room for its result in the frame that runs then
abbrev pub TellsRoom : Known → ℕ → MachineState → Bool → Type 0
TellsRoom k method new lacks = (rest : List Frame) (g : Frame) → new.frames.items ≡ rest ++ g ∷ [] → LacksRoom k g method lacks

-- an object was made for the token, and for lack of room for a result the run is over
pub record BuildBreaks (k : Known) (method : ℕ) (class : ClassId) (number : ℕ) (old new : MachineState) (step : Step) : Type 0 where
  pub ended : step ≡ Ended Broken
  pub at : Ref
  pub operands : List Value
  pub locals : List Local
  pub fills : FillsToken number old new at operands locals
  pub made : IsMade k class.0 old.heap new.heap at
  pub room : TellsRoom k method new true

-- the constructor is to run on it
pub record BuildRuns (k : Known) (method : MethodId) (class : ClassId) (number : ℕ) (given : List Value) (old new : MachineState) (call : Invocation) : Type 0 where
  pub at : Ref
  pub operands : List Value
  pub locals : List Local
  pub fills : FillsToken number old new at operands locals
  pub made : IsMade k class.0 old.heap new.heap at
  pub room : TellsRoom k method.0 new false
  pub method_is : call.method ≡ method
  pub receiver_is : call.receiver ≡ Some at
  pub arguments_are : call.arguments.items ≡ given
  pub purpose_is : call.purpose ≡ Ordinary
  pub before_is : call.before ≡ Token class number operands locals

abbrev pub BuildsBy : Known → MethodId → ClassId → ℕ → List Value → MachineState → MachineState → Prepared → Type 0
BuildsBy k method class number given old new (Done step) = BuildBreaks k method.0 class number old new step
BuildsBy k method class number given old new (IsToRun call) = BuildRuns k method class number given old new call
