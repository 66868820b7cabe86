-- New exceptions and their messages.
use Rattle.std.specs.Prelude.{◌≡◌, ℕ, ◌≤◌, List, take, slice_get, Some}
use Rattle.class_heads.specs.Hierarchy.{name_at}
use Rattle.class_world.specs.Tables.{Known}
use Rattle.class_machine.specs.Values as machine
use Rattle.class_machine.specs.World.{World, message_field, add_text, write_field}
use Rattle.aj_names.specs.declared.ids.ClassId.{ClassId}
use Rattle.machine_values.specs.declared.content.Content.{Content}
use Rattle.machine_values.specs.declared.content.Content.TheVariants.{Text}
use Rattle.machine_values.specs.declared.names.Maker.TheVariants.{Class}
use Rattle.machine_values.specs.declared.names.Name.TheVariants.{Made}
use Rattle.machine_values.specs.declared.values.Ref.{Ref}
use Rattle.machine_values.specs.Standing.{name_of}
use Rattle.machine_values.specs.Things.{Things, with_made}
use Rattle.machine_requests.specs.Objects.{AreFilled, IsNew}
use Rattle.machine_requests.specs.Shares.{Others, Shares}
use Rattle.machine_steps.specs.Programs.{Machine, IsMachine}

-- the heap stands for the world, and each object has a value for each field of its class
pub record Holds (m : Machine) (things : Things) (others : Others) (w : World) : Type 0 where
  pub shares : Shares m.setting things others w
  pub filled : AreFilled things m.setting

-- ---- new objects

-- the object is the machine's new one of the class, and holds that
pub record Makes (k : Known) (class : ClassId) (before after : Things) (at : Ref) : Type 0 where
  pub content : Content
  pub added : (at.0, after) ≡ with_made before (Class class) content
  pub new : (m : Machine) (others : Others) (w : World) → IsMachine k m → Holds m before others w → IsNew m.setting (name_at k.heads class.0) w after others at
  pub filled : (m : Machine) (others : Others) (w : World) → IsMachine k m → Holds m before others w → AreFilled after m.setting

-- the object is the machine's new String
pub record IsString (m : Machine) (after : Things) (others : Others) (w : World) (units : List ℕ) (at : Ref) : Type 0 where
  pub name : name_of m.setting.heads after.names at ≡ (add_text w units).0
  pub holds : Holds m after others (add_text w units).1

pub record MakesString (k : Known) (before : Things) (units : List ℕ) (after : Things) (at : Ref) : Type 0 where
  pub class : ClassId
  pub added : (at.0, after) ≡ with_made before (Class class) (Text units)
  pub new : (m : Machine) (others : Others) (w : World) → IsMachine k m → Holds m before others w → IsString m after others w units at

-- ---- messages

-- the exception, which was made of the class, holds the text as its message, if its class has one
pub record KeepsMessage (k : Known) (class : ClassId) (before after : Things) (x text : Ref) : Type 0 where
  pub names : after.names ≡ before.names
  pub contents : (count : ℕ) → count ≤ x.0 → take count after.contents ≡ take count before.contents
  pub holds : (m : Machine) (others : Others) (w : World) (number : ℕ) → IsMachine k m → slice_get before.names x.0 ≡ Some (Made (Class class) number) → Holds m before others w
      → Holds m after others (write_field w (name_of m.setting.heads before.names x) message_field (machine.Reference (name_of m.setting.heads before.names text)))
