-- Fields of objects, as the machine finds, reads and writes them.
use Rattle.std.specs.Prelude.{◌≡◌, ℕ, ◌<◌, ◌^◌, Bool, true, false, if◌then◌else◌, List, length, slice_get, Option, Some}
use Rattle.std.specs.Option.{option_map}
use Rattle.class_file.specs.Pool.{Reference}
use Rattle.class_heads.specs.declared.types.FieldHead.{FieldHead}
use Rattle.class_heads.specs.declared.types.ClassHead.{ClassHead}
use Rattle.class_world.specs.Tables.{Known}
use Rattle.class_machine.specs.Answers.{answer}
use Rattle.class_machine.specs.Classes.{Field}
use Rattle.class_machine.specs.ClassFiles.{class_code}
use Rattle.class_machine.specs.Declarations.{declared_in, member_name}
use Rattle.class_machine.specs.Effect.{GetField, PutField}
use Rattle.class_machine.specs.Turn.{instance_field, missing_member}
use Rattle.class_machine.specs.Values.{class_of}
use Rattle.class_machine.specs.World.{World}
use Rattle.machine_values.specs.declared.values.Ref.{Ref}
use Rattle.machine_values.specs.declared.values.Value.{Value}
use Rattle.machine_values.specs.Standing.{name_of, held}
use Rattle.machine_values.specs.declared.values.Value.TheVariants.{Null}
use Rattle.machine_values.specs.Things.{Things, values_at}
use Rattle.machine_requests.specs.declared.reply.Reply.{Reply}
use Rattle.machine_requests.specs.declared.reply.Reply.TheVariants.{Gives, Done, Refuses}
use Rattle.machine_requests.specs.Objects.{AreFilled}
use Rattle.machine_requests.specs.Replies.{Replies}
use Rattle.machine_requests.specs.Shares.{Others, Shares}
use Rattle.machine_fields.specs.Positions.{IsPlace}
use Rattle.machine_steps.specs.Programs.{Machine, IsMachine}
use Rattle.machine_invocations.specs.Methods.{classes_in}

-- ---- searches

-- the field that a class declares, as a search gives it
abbrev pub field_of : ClassHead → FieldHead → Field
field_of head field = record { name = declared_in head.name field.name; is_static = false }

-- the search finds the field of objects that the class at the place declares at the position
pub record IsInstanceField (k : Known) (r : Reference) (class position : ℕ) : Type 0 where
  pub head : ClassHead
  pub field : FieldHead
  pub at : slice_get k.heads class ≡ Some head
  pub stands : slice_get head.fields position ≡ Some field
  pub is : (classes_in k).field r ≡ Some (field_of head field)
  pub named : field.name ≡ member_name r.member

-- the search finds none, or a static one
abbrev pub LacksInstanceField : Known → Reference → Type 0
LacksInstanceField k r = instance_field (class_code k.files) (classes_in k) r ((classes_in k).field r) ≡ missing_member r

-- ---- places

-- where each object has a value for each field of its class, the field's place among those of the object
abbrev pub HasPlace : Known → Things → Ref → ℕ → ℕ → Option ℕ → Type 0
HasPlace k things at class position place =
    (m : Machine) (others : Others) (w : World) (head : ClassHead) (field : FieldHead) → IsMachine k m → Shares m.setting things others w → AreFilled things m.setting
    → slice_get k.heads class ≡ Some head → slice_get head.fields position ≡ Some field
    → IsPlace (m.setting.classes.fields (class_of (name_of m.setting.heads things.names at))) (declared_in head.name field.name) place

-- ---- replies

-- what the machine answers to reading the field that the class declares at the position
abbrev pub Reads : Known → Things → ℕ → ℕ → Option Ref → Reply → Type 0
Reads k things class position object reply =
    (m : Machine) (others : Others) (w : World) (r : Reference) → IsMachine k m → IsInstanceField k r class position → Shares m.setting things others w → AreFilled things m.setting
    → Replies m.setting things others w reply (answer m.setting.classes w (GetField r (option_map (name_of m.setting.heads things.names) object)))

-- what is read of a field that the object's class lacks
pub record LacksField (things : Things) (at : ℕ) (instance : Bool) (reply : Reply) : Type 0 where
  pub few : length (values_at things at) < 2 ^ 32
  pub is : reply ≡ (if instance then Gives Null else Refuses)

-- whether the value was written, or the run is Broken
abbrev pub written_reply : Bool → Reply
written_reply true = Done
written_reply false = Refuses

-- what it answers to writing it, and each object has a value for each field of its class still
pub record IsWriting (m : Machine) (before after : Things) (others : Others) (w : World) (r : Reference) (at : Ref) (v : Value) (reply : Reply) : Type 0 where
  pub replies : Replies m.setting after others w reply (answer m.setting.classes w (PutField r (Some (name_of m.setting.heads before.names at)) (held m.setting.heads before.names v)))
  pub filled : AreFilled after m.setting

abbrev pub Writes : Known → Things → Things → ℕ → ℕ → List ℕ → Ref → Value → Reply → Type 0
Writes k before after class position descriptor at v reply =
    (m : Machine) (others : Others) (w : World) (r : Reference) → IsMachine k m → IsInstanceField k r class position → r.member.descriptor ≡ descriptor → Shares m.setting before others w → AreFilled before m.setting
    → IsWriting m before after others w r at v reply
