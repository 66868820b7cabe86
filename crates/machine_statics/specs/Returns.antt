-- Returns (JVMS 3.6.4).
use Rattle.std.specs.Prelude.{◌≡◌, ℕ, Bool, true, false, List, [], ◌∷◌, ◌++◌, length, Option, Some, None}
use Rattle.std.specs.Bool.{MatchBool}
use Rattle.std.specs.Option.{option_map}
use Rattle.class_world.specs.Tables.{Known}
use Rattle.class_machine.specs.declared.kinds.Kind.{Kind}
use Rattle.class_machine.specs.declared.meaning.Basic.TheVariants as basic
use Rattle.class_machine.specs.ClassFiles.{Place}
use Rattle.class_machine.specs.Descriptors.{kind_in, result_in}
use Rattle.class_machine.specs.Effect as definition
use Rattle.class_machine.specs.Machine.{State}
use Rattle.class_machine.specs.Operations.{Do}
use Rattle.class_machine.specs.Turn.{Purpose, Frame, Leaves}
use Rattle.class_machine.specs.Values.{Held}
use Rattle.class_machine.specs.World.{World, shown}
use Rattle.machine_values.specs.declared.frames.Frame as kept
use Rattle.machine_values.specs.declared.observed.Shown.{Shown}
use Rattle.machine_values.specs.declared.script.Answer.{Answer}
use Rattle.machine_values.specs.declared.state.MachineState.{MachineState}
use Rattle.machine_values.specs.declared.values.Value.{Value}
use Rattle.machine_values.specs.Observed.{machine_shown}
use Rattle.machine_values.specs.Standing.{Settled}
use Rattle.machine_values.specs.States.{IsFrameWithin}
use Rattle.machine_frames.specs.Effects.{operands_of}
use Rattle.machine_frames.specs.Naming.{Naming, held}
use Rattle.machine_requests.specs.Shares.{Others, Shares}
use Rattle.machine_steps.specs.declared.step.Step.{Step}
use Rattle.machine_steps.specs.declared.step.Step.TheVariants.{NotMine}
use Rattle.machine_steps.specs.Executing.{executes}
use Rattle.machine_steps.specs.Leaving.{Drops}
use Rattle.machine_steps.specs.Moves.{moved_by}
use Rattle.machine_steps.specs.Programs.{Machine, IsMachine}
use Rattle.machine_steps.specs.Runs.{Runs, Stepped}
use Rattle.machine_invocations.specs.Returning.{IsSettledResult, result_held, is_within}

-- ---- the result

-- the kind of what the method of that number returns
abbrev pub TellsKind : Known → ℕ → Option Kind → Type 0
TellsKind k method kind = (m : Machine) → IsMachine k m → kind ≡ option_map kind_in (result_in (m.methods method).member.descriptor)

-- the value is on top, and of the kind
pub record HasOnTop (f : kept.Frame) (kind : Kind) (v : Value) : Type 0 where
  pub pops : (n : Naming) (go : Held → definition.Effect Place) → definition.pop_held kind (operands_of n f) (λ h rest. go h) ≡ go (held n v)
  pub known : (count : ℕ) → IsFrameWithin count f → Settled count v

abbrev pub LacksOnTop : kept.Frame → Kind → Type 0
LacksOnTop f kind = (n : Naming) (go : Held → definition.Effect Place) → definition.pop_held kind (operands_of n f) (λ h rest. go h) ≡ definition.Broken

abbrev pub IsOnTop : kept.Frame → Kind → Option Value → Type 0
IsOnTop f kind None = LacksOnTop f kind
IsOnTop f kind (Some v) = HasOnTop f kind v

-- a return of the kind gives the value from a method whose result is of the other kind
pub record Results (f : kept.Frame) (kind returns : Option Kind) (value : Option Value) : Type 0 where
  pub leaves : (n : Naming) → definition.leave kind returns (operands_of n f) ≡ definition.Leave (option_map (held n) value)
  pub known : (count : ℕ) → IsFrameWithin count f → IsSettledResult count value

abbrev pub BreaksReturn : kept.Frame → Option Kind → Option Kind → Type 0
BreaksReturn f kind returns = (n : Naming) → definition.leave kind returns (operands_of n f) ≡ definition.Broken

abbrev pub IsResult : kept.Frame → Option Kind → Option Kind → Option (Option Value) → Type 0
IsResult f kind returns None = BreaksReturn f kind returns
IsResult f kind returns (Some value) = Results f kind returns value

abbrev pub TellsSettled : ℕ → Option Value → Bool → Type 0
TellsSettled count value settled = MatchBool settled (IsSettledResult count value) (IsSettledResult count value → ⊥)

-- whatever world of the machine the heap stands for, the result is shown so
abbrev pub ShowsResult : Known → MachineState → Option Value → Option Shown → Type 0
ShowsResult k state value seen =
    (m : Machine) (others : Others) (w : World) → IsMachine k m → Shares m.setting state.heap others w → option_map machine_shown seen ≡ option_map (shown w) (result_held m state value)

-- the step isn't left to another part of the machine
abbrev pub is_mine : Step → Bool
is_mine NotMine = false
is_mine step = true

-- ---- out of the running frame

-- the running frame is taken off, and its monitor left
pub record LeavesRunning (old new : MachineState) : Type 0 where
  pub frame : kept.Frame
  pub split : old.frames.items ≡ new.frames.items ++ frame ∷ []
  pub drops : Drops old new (length new.frames.items)

-- out of a running frame of the purpose, with the result
abbrev pub MovesFrom : Known → MachineState → MachineState → Step → Purpose → Option Value → Type 0
MovesFrom k old new step purpose value =
    (m : Machine) (left : List Answer) (t : State Place) (f : Frame Place) (below : List (Frame Place)) → IsMachine k m → Runs m old left t → t.frames ≡ f ∷ below → f.purpose ≡ purpose
    → Stepped m new left step (moved_by (λ x u g. Leaves (result_held x old value) u.world) m t f below)

-- The step is what the machine makes of a return of the kind. Where the result goes to a call of the library, it is left to
-- another part of the machine.
abbrev pub Returns : Known → MachineState → MachineState → Step → Option Kind → Type 0
Returns k old new NotMine kind =
    (new ≡ old) × ((m : Machine) (left : List Answer) (t : State Place) (f : Frame Place) (below : List (Frame Place)) → IsMachine k m → Runs m old left t → t.frames ≡ f ∷ below → is_within f.purpose ≡ true)
Returns k old new step kind =
    (m : Machine) (left : List Answer) (t : State Place) (f : Frame Place) (below : List (Frame Place)) → IsMachine k m → Runs m old left t → t.frames ≡ f ∷ below
    → (is_within f.purpose ≡ false) × Stepped m new left step (moved_by (executes (Do (basic.Return kind))) m t f below)
