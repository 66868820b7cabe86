-- What objects hold in the fields that the library keeps of its own.
use Rattle.std.specs.Prelude.{◌≡◌, ℕ, nat_lt, if◌then◌else◌, slice_get, Option, Some, None, unwrap_or}
use Rattle.class_file.specs.Pool.{Reference}
use Rattle.class_world.specs.Tables.{Known}
use Rattle.class_machine.specs.World.{World, read_field}
use Rattle.machine_values.specs.declared.names.Maker.TheVariants.{Class}
use Rattle.machine_values.specs.declared.names.Name.{Name}
use Rattle.machine_values.specs.declared.names.Name.TheVariants.{Made}
use Rattle.machine_values.specs.declared.values.Ref.{Ref}
use Rattle.machine_values.specs.declared.values.Value.{Value}
use Rattle.machine_values.specs.declared.values.Value.TheVariants.{Null}
use Rattle.machine_values.specs.Standing.{name_of, held}
use Rattle.machine_values.specs.Things.{Things, values_at}
use Rattle.machine_requests.specs.Shares.{Others}
use Rattle.machine_requests.specs.Telling.{AreDistinct}
use Rattle.machine_rules.specs.Works.{setting_of, Holds}

-- the class, by its number, that an object was made of, where it is one of so many
abbrev pub class_made : ℕ → Option Name → Option ℕ
class_made count (Some (Made (Class class) k)) = if nat_lt class.0 count then Some class.0 else None
class_made count name = None

-- the value at a place among those of an object, or null
abbrev pub value_read : Things → ℕ → Option ℕ → Value
value_read things at None = Null
value_read things at (Some index) = unwrap_or (slice_get (values_at things at) index) Null

-- whatever world the heap stands for, the object's field holds the value there
abbrev pub Reads : Known → Things → Ref → Reference → Value → Type 0
Reads k things at r v =
    (names : ℕ → Reference) (others : Others) (w : World) → AreDistinct k.heads → Holds (setting_of k names) things others w
    → read_field w (name_of k.heads things.names at) r ≡ held k.heads things.names v
