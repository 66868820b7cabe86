-- Fields of the library's objects that no code can name: the message and the cause of a Throwable, and what a box holds.
use Rattle.std.specs.Prelude.{◌≡◌, ℕ, if◌then◌else◌, nat_lt, length, Option, Some, None}
use Rattle.class_file.specs.Pool.{Reference}
use Rattle.class_world.specs.Tables.{Known}
use Rattle.class_machine.specs.Values.{class_of}
use Rattle.class_machine.specs.Descriptors.{element_of, narrowed}
use Rattle.class_machine.specs.World as worlds
use Rattle.class_machine.specs.World.{World, message_field, cause_field, value_field}
use Rattle.machine_values.specs.declared.names.Maker.TheVariants.{Class}
use Rattle.machine_values.specs.declared.names.Name.{Name}
use Rattle.machine_values.specs.declared.names.Name.TheVariants.{Made}
use Rattle.machine_values.specs.declared.values.Ref.{Ref}
use Rattle.machine_values.specs.declared.values.Value.{Value}
use Rattle.machine_values.specs.Standing.{name_of, held, Settled}
use Rattle.machine_values.specs.Things.{Things}
use Rattle.machine_requests.specs.Objects.{AreFilled, field_place}
use Rattle.machine_requests.specs.Shares.{Setting, Others, Shares}
use Rattle.machine_requests.specs.Telling.{AreDistinct}
use Rattle.machine_fields.specs.Settings.{world_setting}
use Rattle.machine_rules.specs.declared.fields.HiddenField.{HiddenField}
use Rattle.machine_rules.specs.declared.fields.HiddenField.TheVariants.{Message, Cause, Boxed}
use Rattle.machine_rules.specs.Works.{setting_of, IsSettingOf, Holds}

abbrev pub field_named : HiddenField → Reference
field_named Message = message_field
field_named Cause = cause_field
field_named (Boxed type) = value_field type

-- the number of the class that an object was made of, where it is one of so many
abbrev pub made_class : ℕ → Option Name → Option ℕ
made_class count (Some (Made (Class class) k)) = if nat_lt class.0 count then Some class.0 else None
made_class count name = None

-- ---- what is read

-- the value stands for what the machine reads of the field
pub record IsRead (s : Setting) (things : Things) (w : World) (at : Ref) (r : Reference) (v : Value) : Type 0 where
  pub same : held s.heads things.names v ≡ worlds.read_field w (name_of s.heads things.names at) r
  pub settled : Settled (length things.names) v

-- the value at that place among the object's fields, where the field is there
abbrev pub IsAtPlace : Things → Ref → ℕ → Value → Type 0
IsAtPlace things at index v =
    (s : Setting) (others : Others) (w : World) (r : Reference) → AreDistinct s.heads → Shares s things others w
    → field_place (s.classes.fields (class_of (name_of s.heads things.names at))) r ≡ Some index → IsRead s things w at r v

-- whatever world the heap stands for
abbrev pub Reads : Known → Things → Ref → Reference → Value → Type 0
Reads k things at r v =
    (names : ℕ → Reference) (others : Others) (w : World) → AreDistinct k.heads → Holds (setting_of k names) things others w
    → IsRead (setting_of k names) things w at r v

-- ---- what is written

-- each object has a value for each field of its class
abbrev pub AreWhole : Known → Things → Type 0
AreWhole k things = AreFilled things (world_setting k)

-- the object's field holds the value then, with the bits that such a field keeps; where the object lacks it nothing changed
abbrev pub Writes : Known → Things → Ref → Reference → Value → Things → Type 0
Writes k before at r v after =
    (names : ℕ → Reference) (others : Others) (w : World) → AreDistinct k.heads → Holds (setting_of k names) before others w
    → Holds (setting_of k names) after others (worlds.write_field w (name_of k.heads before.names at) r (narrowed (element_of r.member.descriptor) (held k.heads before.names v)))

-- where each object had a value for each field of its class, each has them still
abbrev pub StaysWhole : Known → Things → Things → Type 0
StaysWhole k before after =
    (s : Setting) (others : Others) (w : World) → IsSettingOf k s → Shares s before others w → AreFilled before s → AreFilled after s
