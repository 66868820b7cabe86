-- The message of an exception.
use Rattle.std.specs.Prelude.{◌≡◌, ℕ, List, slice_get, Option, Some, None, unwrap_or}
use Rattle.class_heads.specs.Hierarchy.{name_at}
use Rattle.class_world.specs.Tables.{Known}
use Rattle.class_machine.specs.Values.{class_of}
use Rattle.class_machine.specs.World.{message_of}
use Rattle.class_machine.specs.Machine.{State}
use Rattle.class_machine.specs.ClassFiles.{Place}
use Rattle.machine_values.specs.declared.values.Ref.{Ref}
use Rattle.machine_values.specs.declared.values.Value.{Value}
use Rattle.machine_values.specs.declared.values.Value.TheVariants.{Null, Reference as Pointer}
use Rattle.machine_values.specs.declared.script.Answer.{Answer}
use Rattle.machine_values.specs.declared.state.MachineState.{MachineState}
use Rattle.machine_values.specs.Things.{Things}
use Rattle.machine_values.specs.Standing.{name_of}
use Rattle.machine_requests.specs.Objects.{fields_at}
use Rattle.machine_requests.specs.Texts.{text_seen}
use Rattle.machine_steps.specs.Programs.{Machine, IsMachine}
use Rattle.machine_steps.specs.Runs.{Runs}

-- whatever state of the machine the state stands for, the object is one of that class
abbrev pub IsOf : Known → MachineState → Ref → ℕ → Type 0
IsOf k state at class =
    (m : Machine) (answers : List Answer) (t : State Place) → IsMachine k m → Runs m state answers t → class_of (name_of m.setting.heads state.heap.names at) ≡ name_at k.heads class

-- its message is that one
abbrev pub HasMessage : Known → MachineState → Ref → Option (List ℕ) → Type 0
HasMessage k state at message =
    (m : Machine) (answers : List Answer) (t : State Place) → IsMachine k m → Runs m state answers t → message_of t.world (name_of m.setting.heads state.heap.names at) ≡ message

-- the text of a value
abbrev pub text_in : Things → Value → Option (List ℕ)
text_in things (Pointer at) = text_seen (slice_get things.names at.0) (slice_get things.contents at.0)
text_in things v = None

-- the value of a field of an object
abbrev pub field_value : Things → ℕ → ℕ → Value
field_value things at index = unwrap_or (slice_get (fields_at things at) index) Null
