-- What the fields of new objects hold.
use Rattle.std.specs.Prelude.{◌≡◌, ℕ, false, if◌then◌else◌, List, [], ◌∷◌, map, length}
use Rattle.aj_names.specs.declared.types.FieldType.{FieldType}
use Rattle.class_file.specs.Pool.{Reference}
use Rattle.class_heads.specs.declared.types.FieldHead.{FieldHead}
use Rattle.class_heads.specs.Hierarchy.{name_at}
use Rattle.class_world.specs.Tables.{Known}
use Rattle.class_machine.specs.declared.kinds.Element.{Element}
use Rattle.class_machine.specs.Descriptors.{element_of}
use Rattle.class_machine.specs.Declarations.{is_static_field, classes_of}
use Rattle.class_machine.specs.ClassFiles.{field_constant}
use Rattle.class_machine.specs.World.{World, is_text_class}
use Rattle.machine_values.specs.declared.values.Ref.{Ref}
use Rattle.machine_values.specs.Things.{Things}
use Rattle.machine_requests.specs.Arrays.{type_element}
use Rattle.machine_requests.specs.Objects.{AreFilled, IsNew}
use Rattle.machine_requests.specs.Shares.{Setting, Others, Shares}
use Rattle.machine_requests.specs.Telling.{AreDistinct}

-- by the types of fields, and by their descriptors
abbrev pub held_by : List FieldType → List Element
held_by types = map type_element types

abbrev pub asked_by : List Reference → List Element
asked_by fields = map (λ r. element_of r.member.descriptor) fields

-- the fields that aren't static
abbrev pub own_elements : List FieldHead → List Element
own_elements [] = []
own_elements (field ∷ fields) = if is_static_field field then own_elements fields else element_of field.name.descriptor ∷ own_elements fields

-- a setting of the world
pub record IsSettingOf (k : Known) (s : Setting) : Type 0 where
  pub heads : s.heads ≡ k.heads
  pub classes : s.classes ≡ classes_of k.heads (length k.files) (field_constant k.files)
  pub distinct : AreDistinct k.heads

-- whatever world they stood for, the object is the machine's new one of the class
abbrev pub MakesOf : Known → ℕ → Things → Things → Ref → Type 0
MakesOf k class before after at =
    (s : Setting) (others : Others) (w : World) → IsSettingOf k s → Shares s before others w → IsNew s (name_at k.heads class) w after others at

-- where the class's objects have no texts, each object has a value for each field of its class still
abbrev pub KeepsFilled : Known → ℕ → Things → Things → Type 0
KeepsFilled k class before after =
    (s : Setting) (others : Others) (w : World) → IsSettingOf k s → is_text_class (name_at k.heads class) ≡ false → Shares s before others w → AreFilled before s → AreFilled after s
