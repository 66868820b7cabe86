-- What the references, classes and places of a frame stand for in the class machine's definition.
use Rattle.std.specs.Prelude.{◌≡◌, ℕ, ◌<◌, ◌==◌, List, map, Option}
use Rattle.std.specs.Option.{option_map}
use Rattle.class_heads.specs.declared.types.ClassHead.{ClassHead}
use Rattle.class_file.specs.Pool.{Reference}
use Rattle.class_machine.specs.Values as machine
use Rattle.class_machine.specs.ClassFiles.{Place, place_in}
use Rattle.machine_values.specs.declared.values.Ref.{Ref}
use Rattle.machine_values.specs.declared.values.Value.{Value}
use Rattle.machine_values.specs.declared.values.Local.{Local}
use Rattle.machine_values.specs.declared.names.Name.{Name}
use Rattle.machine_values.specs.Standing as standing
use Rattle.machine_values.specs.States as states

-- the classes and the methods by their numbers, and the objects by their places
pub record Naming : Type 0 where
  pub heads : List ClassHead
  pub methods : ℕ → Reference
  pub names : List Name

-- the object at a place of the heap
abbrev pub object : Naming → Ref → machine.Name
object n at = standing.name_of n.heads n.names at

-- a reference that may be null
abbrev pub reference : Naming → Option Ref → Option machine.Name
reference n a = option_map (object n) a

-- a plain value
abbrev pub held : Naming → Value → machine.Held
held n v = standing.held n.heads n.names v

-- a place in the code of a method
abbrev pub place : Naming → ℕ → ℕ → Place
place n method pc = place_in (n.methods method) pc

-- an operand of a frame of the method
abbrev pub value : Naming → ℕ → Value → machine.Value Place
value n method v = states.value_in n.heads n.methods n.names method v

abbrev pub local : Naming → ℕ → Local → machine.Local Place
local n method l = states.local_in n.heads n.methods n.names method l

abbrev pub values : Naming → ℕ → List Value → List (machine.Value Place)
values n method vs = map (value n method) vs

abbrev pub locals : Naming → ℕ → List Local → List (machine.Local Place)
locals n method ls = map (local n method) ls

-- of the first so many places of the heap, two have the same object only if they are the same
pub record Faithful (n : Naming) (count : ℕ) : Type 0 where
  pub tells_apart : (a b : Ref) → a.0 < count → b.0 < count → machine.same_name (object n a) (object n b) ≡ (a.0 == b.0)
