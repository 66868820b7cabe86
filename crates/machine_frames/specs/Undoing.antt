-- What is taken from the operands, so that it can be put back.
use Rattle.std.specs.Prelude.{◌≡◌, ℕ, ◌<◌, ◌≤◌, Bool, true, false, List, [], ◌∷◌, ◌++◌, length, Option, Some, None}
use Rattle.machine_values.specs.declared.values.Ref.{Ref}
use Rattle.machine_values.specs.declared.values.Value.{Value}
use Rattle.machine_values.specs.declared.values.Value.TheVariants as value
use Rattle.machine_values.specs.declared.frames.Frame.{Frame}
use Rattle.machine_values.specs.Stacks.{Stack, weight}
use Rattle.machine_frames.specs.declared.calls.Receiver.{Receiver}
use Rattle.machine_frames.specs.declared.calls.Receiver.TheVariants.{Object, Announced}
use Rattle.machine_frames.specs.declared.effect.Request.{Request}
use Rattle.machine_frames.specs.declared.effect.Request.TheVariants.{MakeArray, ArrayLoad, ArrayStore, ArrayLength, EnterMonitor, LeaveMonitor}
use Rattle.machine_frames.specs.declared.effect.Effect.{Effect}
use Rattle.machine_frames.specs.declared.effect.Effect.TheVariants.{Ask, Fail, Throw}

-- ---- values

-- a reference that may be null
abbrev pub reference_value : Option Ref → Value
reference_value None = value.Null
reference_value (Some at) = value.Reference at

-- what a method is called on
abbrev pub receiver_value : Receiver → Value
receiver_value (Object a) = reference_value a
receiver_value (Announced class number) = value.Token class number

-- what the instruction took for the request, the topmost first
abbrev pub taken_by : Request → List Value
taken_by (MakeArray e size) = value.Int size ∷ []
taken_by (ArrayLoad e a i) = value.Int i ∷ reference_value a ∷ []
taken_by (ArrayStore e a i v) = v ∷ value.Int i ∷ reference_value a ∷ []
taken_by (ArrayLength a) = reference_value a ∷ []
taken_by (EnterMonitor a) = reference_value a ∷ []
taken_by (LeaveMonitor a) = reference_value a ∷ []

-- ---- operands

-- the values were taken, the topmost first; there was room for them
pub record TakesAll (s : Stack) (vs : List Value) (t : Stack) : Type 0 where
  pub room : t.room ≡ s.room
  pub values : s.values ≡ vs ++ t.values
  pub fits : 0 < length vs → weight s.values ≤ s.room

-- an exception leaves the operands, and what a request took is known from it
abbrev pub UndoneOn : Stack → Stack → Effect → Type 0
UndoneOn s t (Fail fault) = t ≡ s
UndoneOn s t (Throw a) = t ≡ s
UndoneOn s t (Ask request) = TakesAll s (taken_by request) t
UndoneOn s t e = Unit {0}

pub record UndoesOn (s t : Stack) (e : Effect) : Type 0 where
  pub undoes : UndoneOn s t e

-- no exception comes of it, and nothing is asked
abbrev pub is_plain : Effect → Bool
is_plain (Fail fault) = false
is_plain (Throw a) = false
is_plain (Ask request) = false
is_plain e = true

-- ---- frames

-- the values were taken from the frame, which is as it was but for them
pub record IsTaken (old : Frame) (vs : List Value) (new : Frame) : Type 0 where
  pub rest : new ≡ record old { operands = new.operands }
  pub taken : TakesAll old.operands vs new.operands

abbrev pub UndoneBy : Frame → Frame → Effect → Type 0
UndoneBy old new (Fail fault) = new ≡ old
UndoneBy old new (Throw a) = new ≡ old
UndoneBy old new (Ask request) = IsTaken old (taken_by request) new
UndoneBy old new e = Unit {0}

-- an exception leaves the frame, and what a request took is known from it
pub record Undoes (old new : Frame) (e : Effect) : Type 0 where
  pub undoes : UndoneBy old new e
