-- Which effect of the class machine's definition an effect of this crate is.
use Rattle.std.specs.Prelude.{◌≡◌, ℕ, Bool, ◌&&◌, true, false, List, [], ◌∷◌, Option, Some, None, length}
use Rattle.std.specs.List.{AllByRecursion}
use Rattle.std.specs.Option.{option_map}
use Rattle.class_machine.specs.declared.kinds.Kind.{Kind}
use Rattle.class_machine.specs.Values as machine
use Rattle.class_machine.specs.Descriptors.{primitive}
use Rattle.class_machine.specs.ClassFiles.{Place}
use Rattle.class_machine.specs.Effect as definition
use Rattle.machine_values.specs.declared.values.Value.{Value}
use Rattle.machine_values.specs.declared.values.Local.{Local}
use Rattle.machine_values.specs.declared.frames.Frame.{Frame}
use Rattle.machine_values.specs.Standing.{is_settled}
use Rattle.machine_values.specs.States.{is_known, is_known_local, is_known_object}
use Rattle.machine_frames.specs.declared.effect.Request.{Request}
use Rattle.machine_frames.specs.declared.effect.Request.TheVariants.{MakeArray, ArrayLoad, ArrayStore, ArrayLength, EnterMonitor, LeaveMonitor}
use Rattle.machine_frames.specs.declared.effect.Effect.{Effect}
use Rattle.machine_frames.specs.declared.effect.Effect.TheVariants.{On, Jump, Enter, Back, Ask, Leave, Fail, Throw, Unmodelled, Broken}
use Rattle.machine_frames.specs.Naming.{Naming, object, reference, held, place, values, locals}

abbrev pub request_in : Naming → Request → definition.Request
request_in n (MakeArray e size) = definition.MakeArray None (91 ∷ primitive e) (size ∷ [])
request_in n (ArrayLoad e a i) = definition.ArrayLoad e (reference n a) i
request_in n (ArrayStore e a i v) = definition.ArrayStore e (reference n a) i (held n v)
request_in n (ArrayLength a) = definition.ArrayLength (reference n a)
request_in n (EnterMonitor a) = definition.EnterMonitor (reference n a)
request_in n (LeaveMonitor a) = definition.LeaveMonitor (reference n a)

-- the effect on a frame of the method that has these operands and locals then
abbrev pub effect_in : Naming → ℕ → Effect → List (machine.Value Place) → List (machine.Local Place) → definition.Effect Place
effect_in n method On ops ls = definition.On (machine.content ops ls)
effect_in n method (Jump i) ops ls = definition.Jump i (machine.content ops ls)
effect_in n method (Enter i) ops ls = definition.Enter i (machine.content ops ls)
effect_in n method (Back pc) ops ls = definition.Back (place n method pc) (machine.content ops ls)
effect_in n method (Ask request) ops ls = definition.Ask (request_in n request) (machine.content ops ls)
effect_in n method (Leave result) ops ls = definition.Leave (option_map (held n) result)
effect_in n method (Fail fault) ops ls = definition.Fail fault
effect_in n method (Throw a) ops ls = definition.Throw (object n a)
effect_in n method (Unmodelled op) ops ls = definition.Unmodelled op
effect_in n method Broken ops ls = definition.Broken

-- what an instruction does to operands and locals
abbrev pub Form : Type 0
Form = List (machine.Value Place) → List (machine.Local Place) → definition.Effect Place

abbrev pub operands_of : Naming → Frame → List (machine.Value Place)
operands_of n f = values n f.method.0 f.operands.values

abbrev pub locals_of : Naming → Frame → List (machine.Local Place)
locals_of n f = locals n f.method.0 f.locals

-- what doesn't change of the frame, of a method whose result is of that kind
abbrev pub setting : Frame → Option Kind → definition.Setting
setting f kind = record { room = f.operands.room; result = kind }

-- the frame as it was, under the form, comes to the effect with the frame as it is
pub record Does (n : Naming) (form : Form) (old new : Frame) (e : Effect) : Type 0 where
  pub same : effect_in n old.method.0 e (operands_of n new) (locals_of n new) ≡ form (operands_of n old) (locals_of n old)

-- all but the operands and what the locals hold
pub record Keeps (old new : Frame) : Type 0 where
  pub method : new.method ≡ old.method
  pub pc : new.pc ≡ old.pc
  pub room : new.operands.room ≡ old.operands.room
  pub locals : length new.locals ≡ length old.locals
  pub monitor : new.monitor ≡ old.monitor
  pub constructed : new.constructed ≡ old.constructed
  pub purpose : new.purpose ≡ old.purpose

-- an exception comes of it
abbrev pub raises : Effect → Bool
raises (Fail fault) = true
raises (Throw a) = true
raises _ = false

-- ---- effects that refer to none but the first so many objects

abbrev pub is_request_within : ℕ → Request → Bool
is_request_within count (MakeArray e size) = true
is_request_within count (ArrayLoad e a i) = is_known_object count a
is_request_within count (ArrayStore e a i v) = is_known_object count a && is_settled count v
is_request_within count (ArrayLength a) = is_known_object count a
is_request_within count (EnterMonitor a) = is_known_object count a
is_request_within count (LeaveMonitor a) = is_known_object count a

abbrev pub is_result_within : ℕ → Option Value → Bool
is_result_within count None = true
is_result_within count (Some v) = is_settled count v

abbrev pub is_effect_within : ℕ → Effect → Bool
is_effect_within count (Ask request) = is_request_within count request
is_effect_within count (Leave result) = is_result_within count result
is_effect_within count (Throw a) = is_known_object count (Some a)
is_effect_within count _ = true

abbrev pub AreKnown : ℕ → List Value → Type 0
AreKnown count vs = AllByRecursion (λ v. is_known count v ≡ true) vs

abbrev pub AreKnownLocals : ℕ → List Local → Type 0
AreKnownLocals count ls = AllByRecursion (λ l. is_known_local count l ≡ true) ls
