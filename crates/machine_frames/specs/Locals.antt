-- What the functions on locals do, for each naming of what the locals stand for.
use Rattle.std.specs.Prelude.{◌≡◌, ℕ, true, List, Some, None}
use Rattle.class_machine.specs.Values as machine
use Rattle.class_machine.specs.ClassFiles.{Place}
use Rattle.class_machine.specs.Effect as definition
use Rattle.machine_values.specs.declared.values.Value.{Value}
use Rattle.machine_values.specs.declared.values.Local.{Local}
use Rattle.machine_values.specs.States.{is_known}
use Rattle.machine_frames.specs.Naming.{Naming, value, locals}
use Rattle.machine_frames.specs.Effects.{AreKnownLocals}

-- how the definition goes on with what the local holds
abbrev pub Onward : Type 0
Onward = machine.Value Place → definition.Effect Place

abbrev pub Reads : List Local → ℕ → Value → Type 0
Reads ls i v = (n : Naming) (method : ℕ) (go : Onward) → definition.read_local i (locals n method ls) go ≡ go (value n method v)

abbrev pub CannotRead : List Local → ℕ → Type 0
CannotRead ls i = (n : Naming) (method : ℕ) (go : Onward) → definition.read_local i (locals n method ls) go ≡ definition.Broken

abbrev pub Writes : List Local → ℕ → Value → List Local → Type 0
Writes ls i v set = (n : Naming) (method : ℕ) → definition.written i (value n method v) (locals n method ls) ≡ Some (locals n method set)

abbrev pub CannotWrite : List Local → ℕ → Value → Type 0
CannotWrite ls i v = (n : Naming) (method : ℕ) → definition.written i (value n method v) (locals n method ls) ≡ None

-- where the locals refer to none but the first so many objects, neither does the value
abbrev pub IsKnownIn : List Local → Value → Type 0
IsKnownIn ls v = (count : ℕ) → AreKnownLocals count ls → is_known count v ≡ true
