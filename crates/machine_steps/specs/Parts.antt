-- Which part of the machine takes the next step: one has the calls of the library's methods and what comes back into them, one
-- all other calls, returns, initialisers and a state without an instruction, and one all else.
use Rattle.std.specs.Prelude.{◌≡◌, ℕ, Bool, true, false, if◌then◌else◌, List, [], ◌∷◌, length, slice_get, is_none, Option, Some, None, option_and_then}
use Rattle.class_file.specs.declared.types.ClassFile.{ClassFile}
use Rattle.class_file.specs.Pool.{Reference}
use Rattle.class_machine.specs.declared.kinds.Access.TheVariants as access
use Rattle.class_machine.specs.declared.kinds.Mode.{Mode}
use Rattle.class_machine.specs.declared.meaning.Basic.TheVariants as basic
use Rattle.class_machine.specs.Values.{Name, Reference as Pointer, Value, Plain}
use Rattle.class_machine.specs.Descriptors.{parameters_in}
use Rattle.class_machine.specs.Classes.{Method, Classes}
use Rattle.class_machine.specs.ClassFiles.{Place, file_named, class_code}
use Rattle.class_machine.specs.Operations.{Operation, Do, FieldAccess, Invoke, New}
use Rattle.class_machine.specs.Turn.{Purpose, Within, Frame, selection}
use Rattle.class_machine.specs.Machine as machines
use Rattle.class_machine.specs.Machine.{State, step}
use Rattle.machine_values.specs.declared.script.Answer.{Answer}
use Rattle.machine_values.specs.declared.state.MachineState.{MachineState}
use Rattle.machine_steps.specs.declared.step.Step.{Step}
use Rattle.machine_steps.specs.declared.step.Step.TheVariants.{NotMine}
use Rattle.machine_steps.specs.Programs.{Machine, IsMachine}
use Rattle.machine_steps.specs.Runs.{Runs, Stepped}
use Rattle.class_world.specs.Tables.{Known}

pub data Part : Type 0 where
  Core : Part
  Calls : Part
  Library : Part

abbrev pub is_part : Part → Part → Bool
is_part Part.Core Part.Core = true
is_part Part.Calls Part.Calls = true
is_part Part.Library Part.Library = true
is_part _ _ = false

-- ---- the method that a call is to run

abbrev pub object_in : Option (Value Place) → Option Name
object_in (Some (Plain (Pointer a))) = Some a
object_in _ = None

-- what lies below so many arguments, where that is an object
abbrev pub receiver_below : ℕ → List (Value Place) → Option Name
receiver_below arguments operands = object_in (slice_get operands arguments)

abbrev pub is_special : Mode → Bool
is_special Mode.Special = true
is_special _ = false

module _ (files : List ClassFile) (cs : Classes) where
  -- the found method where there is no object to select from
  abbrev pub from_object : Frame Place → Bool → Option Name → Method → Option Method
  from_object f special None m = Some m
  from_object f special (Some a) m = selection (class_code files) cs f special a m

  abbrev pub receiver_of : Frame Place → Reference → Option Name
  receiver_of f r = receiver_below (length (parameters_in r.member.descriptor)) f.content.operands

  abbrev pub method_called : Frame Place → Mode → Reference → Option Method
  method_called f Mode.Static r = cs.method r
  method_called f mode r = option_and_then (from_object f (is_special mode) (receiver_of f r)) (cs.method r)

  -- a method of the library is that of a class without a file
  abbrev pub part_of_method : Option Method → Part
  part_of_method None = Part.Calls
  part_of_method (Some m) = if is_none (file_named files m.name.class) then Part.Library else Part.Calls

  -- ---- the part of an instruction

  abbrev pub part_of_return : Purpose → Part
  part_of_return (Within wait) = Part.Library
  part_of_return _ = Part.Calls

  abbrev pub part_of_operation : Frame Place → Operation → Part
  part_of_operation f (Do (basic.Return kind)) = part_of_return f.purpose
  part_of_operation f (FieldAccess access.GetStatic r) = Part.Calls
  part_of_operation f (FieldAccess access.PutStatic r) = Part.Calls
  part_of_operation f (Invoke mode r) = part_of_method (method_called f mode r)
  part_of_operation f (New class) = Part.Calls
  part_of_operation f _ = Part.Core

  abbrev pub part_of_line : Frame Place → Option Operation → Part
  part_of_line f None = Part.Calls
  part_of_line f (Some operation) = part_of_operation f operation

  abbrev pub part_of_frames : List (Frame Place) → Part
  part_of_frames [] = Part.Calls
  part_of_frames (f ∷ below) = part_of_line f ((class_code files).line f.place)

-- the part that takes the next step
abbrev pub part_of : Machine → State Place → Part
part_of m t = part_of_frames m.files m.setting.classes t.frames

-- ---- a step of a part

-- the part's own step is the machine's, and any other is left
abbrev pub TakesOr : Bool → Machine → MachineState → MachineState → List Answer → List Answer → Step → State Place → Type 0
TakesOr true m old new before after step t = Stepped m new after step (machines.step (class_code m.files) m.setting.classes t)
TakesOr false m old new before after step t = (step ≡ NotMine) × (new ≡ old) × (after ≡ before)

-- Whatever state of the machine the old one stood for, the part takes its step or leaves it.
abbrev pub Takes : Part → Known → MachineState → MachineState → List Answer → List Answer → Step → Type 0
Takes part k old new before after step =
    (m : Machine) (t : State Place) → IsMachine k m → Runs m old before t → TakesOr (is_part (part_of m t) part) m old new before after step t
