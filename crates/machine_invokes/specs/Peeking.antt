-- On what a call is.
use Rattle.std.specs.Prelude.{ℕ, List, length, slice_get, Option, Some, None, option_and_then}
use Rattle.class_machine.specs.declared.kinds.Mode.{Mode}
use Rattle.class_machine.specs.Descriptors.{parameters_in}
use Rattle.machine_values.specs.declared.values.Ref.{Ref}
use Rattle.machine_values.specs.declared.values.Value.{Value}
use Rattle.machine_values.specs.declared.values.Value.TheVariants.{Reference as Pointer}
use Rattle.machine_values.specs.declared.frames.Frame.{Frame}

abbrev pub object_in : Value → Option Ref
object_in (Pointer at) = Some at
object_in v = None

-- what lies below so many arguments, where that is an object
abbrev pub object_below : ℕ → Frame → Option Ref
object_below arguments f = option_and_then object_in (slice_get f.operands.values arguments)

-- the object below the arguments of a call of a method of the descriptor
abbrev pub receiver_in : Mode → List ℕ → Frame → Option Ref
receiver_in Mode.Static descriptor f = None
receiver_in mode descriptor f = object_below (length (parameters_in descriptor)) f
