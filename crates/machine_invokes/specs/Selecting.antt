-- Which method of an object a call runs.
use Rattle.std.specs.Prelude.{◌≡◌, ℕ, Bool, length, Option}
use Rattle.aj_names.specs.declared.ids.MethodId.{MethodId}
use Rattle.class_file.specs.Pool.{Reference}
use Rattle.class_world.specs.Tables.{Known}
use Rattle.class_machine.specs.ClassFiles.{Place, class_code}
use Rattle.class_machine.specs.Classes.{Method}
use Rattle.class_machine.specs.Turn as turns
use Rattle.machine_values.specs.declared.values.Ref.{Ref}
use Rattle.machine_values.specs.Standing.{name_of}
use Rattle.machine_values.specs.Things.{Things}
use Rattle.machine_requests.specs.Telling.{AreFit}
use Rattle.machine_steps.specs.Programs.{IsMachine}
use Rattle.machine_invocations.specs.Methods.{classes_in, Sees, Finds}
use Rattle.machine_invocations.specs.Standards.{machine_of}

-- the object is an instance of the class that declares the method, or not
abbrev pub ServesAs : Known → Things → Ref → ℕ → Bool → Type 0
ServesAs k heap at method serves =
    (fields methods : ℕ → Reference) (found : Method) → IsMachine k (machine_of k fields methods) → AreFit (length k.heads) heap.names → Sees k method found
    → turns.serves_as (class_code k.files) (classes_in k) (name_of k.heads heap.names at) found ≡ serves

-- the selection from the found method, for code of the current one
abbrev pub Selects : Known → Things → ℕ → Bool → Ref → ℕ → Option MethodId → Type 0
Selects k heap current special at found result =
    (fields methods : ℕ → Reference) (f : turns.Frame Place) (m : Method) → IsMachine k (machine_of k fields methods) → AreFit (length k.heads) heap.names → f.method ≡ methods current → Sees k found m
    → Finds k result (turns.selection (class_code k.files) (classes_in k) f special (name_of k.heads heap.names at) m)
