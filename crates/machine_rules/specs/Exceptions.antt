-- What an exception may have as its cause.
use Rattle.std.specs.Prelude.{◌≡◌, ◌<◌, ◌≤◌, Bool, true, false, take, length}
use Rattle.class_world.specs.Tables.{Known}
use Rattle.class_machine.specs.Values as machine
use Rattle.class_machine.specs.Values.{class_of, throwable_class, Held}
use Rattle.class_machine.specs.Classes.{Classes}
use Rattle.machine_values.specs.declared.values.Ref.{Ref}
use Rattle.machine_values.specs.declared.values.Value.{Value}
use Rattle.machine_values.specs.Standing.{held}
use Rattle.machine_values.specs.Things.{Things}
use Rattle.machine_requests.specs.Telling.{AreDistinct, AreFit}
use Rattle.machine_fields.specs.Settings.{world_setting}

-- null, or an instance of Throwable
abbrev pub is_cause : Classes → Held → Bool
is_cause cs machine.Null = true
is_cause cs (machine.Reference a) = cs.is_subtype (class_of a) throwable_class
is_cause cs _ = false

-- of the values of a heap
abbrev pub TellsCause : Known → Things → Value → Bool → Type 0
TellsCause k things v is = AreDistinct k.heads → AreFit (length k.heads) things.names → is ≡ is_cause (world_setting k).classes (held k.heads things.names v)

-- the object is a new one, behind those that there were
pub record IsLast (before after : Things) (at : Ref) : Type 0 where
  pub known : at.0 < length after.names
  pub behind : length before.contents ≤ at.0
  pub contents : take (length before.contents) after.contents ≡ before.contents
