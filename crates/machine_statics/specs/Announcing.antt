-- Classes whose objects are announced (JVMS 6, `new`), and the numbers of tokens.
use Rattle.std.specs.Prelude.{◌≡◌, ℕ, ◌<◌, true, false, List, [], ◌∷◌, ◌++◌, length, Option, Some, None}
use Rattle.aj_names.specs.declared.ids.ClassId.{ClassId}
use Rattle.class_heads.specs.Hierarchy.{name_at}
use Rattle.class_world.specs.Tables.{Known}
use Rattle.class_machine.specs.ClassFiles.{Place}
use Rattle.class_machine.specs.Turn as turns
use Rattle.class_machine.specs.Values.{fresh}
use Rattle.machine_values.specs.declared.frames.Frame.{Frame}
use Rattle.machine_values.specs.declared.state.MachineState.{MachineState}
use Rattle.machine_frames.specs.Effects.{operands_of, locals_of}
use Rattle.machine_frames.specs.Naming.{Naming}
use Rattle.machine_steps.specs.Programs.{Machine}
use Rattle.machine_invocations.specs.Methods.{classes_in}

-- the class of the name, which has objects
pub record HasObjects (k : Known) (name : List ℕ) (class : ℕ) : Type 0 where
  pub has : (classes_in k).has_objects name ≡ true
  pub named : name_at k.heads class ≡ name
  pub within : class < length k.heads

abbrev pub FindsClass : Known → List ℕ → Option ClassId → Type 0
FindsClass k name None = (classes_in k).has_objects name ≡ false
FindsClass k name (Some class) = HasObjects k name class.0

-- the number is that of the running frame's next token
abbrev pub NumbersNext : MachineState → ℕ → Type 0
NumbersNext state number = (rest : List Frame) (g : Frame) → state.frames.items ≡ rest ++ g ∷ [] → (n : Naming) → number ≡ fresh (operands_of n g) (locals_of n g)

-- the class has that name, and the frame's next token that number
pub record IsNext (name : List ℕ) (class number : ℕ) (m : Machine) (f : turns.Frame Place) : Type 0 where
  pub named : name_at m.setting.heads class ≡ name
  pub numbered : number ≡ fresh f.content.operands f.content.locals
