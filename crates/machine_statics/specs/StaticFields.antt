-- Which static field a reference names (JVMS 5.4.3.2), and what is known of it where it is read or stored to.
use Rattle.std.specs.Prelude.{◌≡◌, ℕ, ◌<◌, length, Option, Some, None}
use Rattle.std.specs.List.{sum}
use Rattle.class_file.specs.Pool.{Reference}
use Rattle.class_heads.specs.declared.types.FieldHead.{FieldHead}
use Rattle.class_heads.specs.declared.types.ClassHead.{ClassHead}
use Rattle.class_heads.specs.Hierarchy.{name_at}
use Rattle.class_heads.specs.Numbers.{field_counts}
use Rattle.class_world.specs.Tables.{Known}
use Rattle.class_machine.specs.declared.kinds.Element.{Element}
use Rattle.class_machine.specs.declared.kinds.Kind.{Kind}
use Rattle.class_machine.specs.Answers.{declared}
use Rattle.class_machine.specs.ClassFiles.{Place, class_code}
use Rattle.class_machine.specs.Declarations.{declared_in, member_name}
use Rattle.class_machine.specs.Descriptors.{element_of, kind_in}
use Rattle.class_machine.specs.Turn.{Frame, Link, Needs, static_field, missing_member}
use Rattle.machine_values.specs.declared.values.Value.{Value}
use Rattle.machine_values.specs.Standing.{Settled}
use Rattle.machine_values.specs.Things.{Things}
use Rattle.machine_fields.specs.Constants.{IsDeclared}
use Rattle.machine_requests.specs.Statics.{IsField, IsInitial, AreApart}
use Rattle.machine_steps.specs.Programs.{Machine, IsMachine}
use Rattle.machine_invocations.specs.Methods.{classes_in}
use Rattle.machine_statics.specs.declared.fields.StaticField.{StaticField}

-- what the search for the static field comes to
abbrev pub search_of : Known → Reference → Link
search_of k r = static_field (class_code k.files) (classes_in k) r ((classes_in k).field r)

-- the reference names this static field
pub record IsStatic (k : Known) (r : Reference) (s : StaticField) : Type 0 where
  pub needs : search_of k r ≡ Needs (name_at k.heads s.class.0)
  pub within : s.class.0 < length k.heads
  pub numbered : s.id.0 < sum (field_counts k.heads)
  pub head : ClassHead
  pub field : FieldHead
  pub stands : IsDeclared k s.class.0 s.position head field
  pub member : field.name ≡ member_name r.member
  pub declares : declared (classes_in k) r ≡ declared_in head.name field.name
  pub named : (m : Machine) → IsMachine k m → m.setting.field_names s.id.0 ≡ declared_in head.name field.name

-- it names this one, or no static field
abbrev pub FindsStatic : Known → Reference → Option StaticField → Type 0
FindsStatic k r None = search_of k r ≡ missing_member r
FindsStatic k r (Some s) = IsStatic k r s

-- the reference names the field of that number, which holds such values, and this one from the start
pub record Reads (r : Reference) (number : ℕ) (e : Element) (things : Things) (initial : Value) (m : Machine) (f : Frame Place) : Type 0 where
  pub element : element_of r.member.descriptor ≡ e
  pub field : IsField r number e m.setting
  pub starts : IsInitial things number initial m.setting
  pub settled : Settled (length things.names) initial

-- the reference names the field of that number, which holds such values, and fields have names of their own
pub record Stores (r : Reference) (number : ℕ) (e : Element) (kind : Kind) (count : ℕ) (m : Machine) (f : Frame Place) : Type 0 where
  pub fits : kind_in r.member.descriptor ≡ kind
  pub field : IsField r number e m.setting
  pub apart : AreApart count m.setting
