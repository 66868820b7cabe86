-- Whether what an instruction takes is there.
use Rattle.std.specs.Prelude.{◌≡◌, Bool, not, List}
use Rattle.class_file.specs.Pool.{Reference}
use Rattle.class_machine.specs.declared.kinds.Kind.{Kind}
use Rattle.class_machine.specs.declared.kinds.Access.{Access}
use Rattle.class_machine.specs.declared.kinds.Mode.{Mode}
use Rattle.class_machine.specs.Effect as definition
use Rattle.machine_values.specs.declared.frames.Frame.{Frame}
use Rattle.machine_frames.specs.Naming.{Naming}
use Rattle.machine_frames.specs.Named.{effect_on, access}
use Rattle.machine_frames.specs.Calls.{kinds_for}

-- `putstatic` of any field of the kind breaks the run or not
abbrev pub TellsPut : Kind → Frame → Bool → Type 0
TellsPut kind f can = (n : Naming) (r : Reference) → definition.is_broken (effect_on n f (access f Access.PutStatic r kind)) ≡ not can

-- `invokestatic` of any method whose parameters have these kinds does or not
abbrev pub TellsCall : List Kind → Frame → Bool → Type 0
TellsCall kinds f can = (n : Naming) (r : Reference) → kinds_for r ≡ kinds → definition.is_broken (effect_on n f (definition.invoke Mode.Static r)) ≡ not can
