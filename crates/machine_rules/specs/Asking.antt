-- The texts that methods of the library make of objects.
use Rattle.std.specs.Prelude.{◌≡◌, ℕ, List, Option}
use Rattle.class_file.specs.Pool.{Reference}
use Rattle.class_world.specs.Tables.{Known}
use Rattle.class_machine.specs.World.{World}
use Rattle.machine_values.specs.declared.names.Name.{Name}
use Rattle.machine_values.specs.Things.{Things}
use Rattle.machine_requests.specs.Shares.{Setting, Others}
use Rattle.machine_requests.specs.Telling.{AreDistinct}
use Rattle.machine_rules.specs.Works.{setting_of, Holds}

-- the text that is asked for, where the classes and the objects have these names
abbrev pub AskedText : Type 0
AskedText = Setting → List Name → World → Option (List ℕ)

-- whatever world the heap stands for, it is that text
abbrev pub MakesText : Known → Things → AskedText → Option (List ℕ) → Type 0
MakesText k things asked text =
    (names : ℕ → Reference) (others : Others) (w : World) → AreDistinct k.heads → Holds (setting_of k names) things others w
    → asked (setting_of k names) things.names w ≡ text
