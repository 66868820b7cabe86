-- Which part of the machine has an invocation.
use Rattle.std.specs.Prelude.{◌≡◌, ℕ, Bool, true, List, ◌∷◌, length, nat_lt, Option}
use Rattle.aj_names.specs.declared.ids.MethodId.{MethodId}
use Rattle.class_file.specs.Pool.{Reference}
use Rattle.class_world.specs.Tables.{Known}
use Rattle.class_machine.specs.declared.kinds.Mode.{Mode}
use Rattle.class_machine.specs.ClassFiles.{Place, class_code}
use Rattle.class_machine.specs.Classes.{Method}
use Rattle.class_machine.specs.Machine.{State}
use Rattle.class_machine.specs.Operations.{Invoke}
use Rattle.class_machine.specs.Turn as turns
use Rattle.machine_values.specs.declared.frames.Frame.{Frame}
use Rattle.machine_values.specs.declared.script.Answer.{Answer}
use Rattle.machine_values.specs.declared.state.MachineState.{MachineState}
use Rattle.machine_values.specs.declared.values.Ref.{Ref}
use Rattle.machine_values.specs.Standing.{name_of}
use Rattle.machine_values.specs.Things.{Things}
use Rattle.machine_requests.specs.Telling.{AreFit}
use Rattle.machine_steps.specs.Parts.{Part, is_part, is_special, method_called, part_of_operation}
use Rattle.machine_steps.specs.Programs.{Machine, IsMachine}
use Rattle.machine_steps.specs.Runs.{Runs}
use Rattle.machine_invocations.specs.Methods.{classes_in, Sees, Finds}
use Rattle.machine_invocations.specs.Standards.{machine_of}

-- the selection on the object, where the heap has it
abbrev pub SelectsOn : Known → Things → Frame → Mode → Ref → ℕ → Option MethodId → Type 0
SelectsOn k heap frame mode at found result =
    (fields methods : ℕ → Reference) (f : turns.Frame Place) (m : Method) → IsMachine k (machine_of k fields methods) → AreFit (length k.heads) heap.names → f.method ≡ methods frame.method.0 → Sees k found m
    → nat_lt at.0 (length heap.names) ≡ true → Finds k result (turns.selection (class_code k.files) (classes_in k) f (is_special mode) (name_of k.heads heap.names at) m)

-- whatever state of the machine with a running frame the state stands for, that is the method that the call there is to run
abbrev pub FindsCalled : Known → MachineState → Mode → Reference → Option MethodId → Type 0
FindsCalled k state mode r result =
    (m : Machine) (left : List Answer) (t : State Place) (f : turns.Frame Place) (below : List (turns.Frame Place)) → IsMachine k m → Runs m state left t → t.frames ≡ f ∷ below
    → Finds k result (method_called m.files m.setting.classes f mode r)

-- the part of the library's methods has the call there, or another one
abbrev pub TellsLibrary : Known → MachineState → Mode → Reference → Bool → Type 0
TellsLibrary k state mode r library =
    (m : Machine) (left : List Answer) (t : State Place) (f : turns.Frame Place) (below : List (turns.Frame Place)) → IsMachine k m → Runs m state left t → t.frames ≡ f ∷ below
    → library ≡ is_part (part_of_operation m.files m.setting.classes f (Invoke mode r)) Part.Library
