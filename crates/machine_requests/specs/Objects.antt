-- Objects, their classes and their fields.
use Rattle.std.specs.Prelude.{◌≡◌, ℕ, suc, ◌<◌, Bool, true, false, if◌then◌else◌, nat_lt, List, [], ◌∷◌, map, length, slice_get, Option, Some, None}
use Rattle.std.specs.Option.{option_map}
use Rattle.aj_names.specs.declared.types.FieldType.{FieldType}
use Rattle.class_file.specs.Pool.{Reference}
use Rattle.class_heads.specs.Hierarchy.{name_at, is_array}
use Rattle.class_machine.specs.declared.kinds.Element.{Element}
use Rattle.class_machine.specs.Values as machine
use Rattle.class_machine.specs.Values.{class_of, class_class}
use Rattle.class_machine.specs.Descriptors.{element_of}
use Rattle.class_machine.specs.Classes.{same_member}
use Rattle.class_machine.specs.Answers.{declared}
use Rattle.class_machine.specs.World as worlds
use Rattle.class_machine.specs.World.{World, is_text_class}
use Rattle.machine_values.specs.declared.values.Ref.{Ref}
use Rattle.machine_values.specs.declared.values.Value.{Value}
use Rattle.machine_values.specs.declared.values.Value.TheVariants.{Null}
use Rattle.machine_values.specs.declared.names.Maker.TheVariants.{Class}
use Rattle.machine_values.specs.declared.names.Name.{Name}
use Rattle.machine_values.specs.declared.names.Name.TheVariants.{Made}
use Rattle.machine_values.specs.declared.content.Content.{Content}
use Rattle.machine_values.specs.declared.content.Content.TheVariants.{Values, Text}
use Rattle.machine_values.specs.First.{first_value}
use Rattle.machine_values.specs.Standing.{name_in, name_of}
use Rattle.machine_values.specs.Things.{Things}
use Rattle.machine_requests.specs.declared.reply.Reply.{Reply}
use Rattle.machine_requests.specs.declared.reply.Reply.TheVariants.{Gives}
use Rattle.machine_requests.specs.Telling.{AreDistinct}
use Rattle.machine_requests.specs.Shares.{Setting, Others, Shares}
use Rattle.machine_requests.specs.Arrays.{type_element}

-- whether an object is one of a class
pub record IsBelow (things : Things) (object : Option Ref) (class : List ℕ) (below : Bool) (s : Setting) : Type 0 where
  pub is : (at : Ref) → object ≡ Some at → s.classes.is_subtype (class_of (name_of s.heads things.names at)) class ≡ below

-- ---- new objects

-- whether the class has texts, or else the types of its objects' fields, in their order
pub record IsClass (number : ℕ) (text : Bool) (types : List FieldType) (s : Setting) : Type 0 where
  pub within : nat_lt number (length s.heads) ≡ true
  pub of_text : is_text_class (name_at s.heads number) ≡ text
  pub of_types : map (λ (r : Reference). element_of r.member.descriptor) (s.classes.fields (name_at s.heads number)) ≡ map type_element types

-- Whatever world they stood for, the object is the machine's new one, and the heap then stands for the world with it.
pub record IsNew (s : Setting) (class : List ℕ) (w : World) (things : Things) (others : Others) (at : Ref) : Type 0 where
  pub name : name_of s.heads things.names at ≡ (worlds.make s.classes w class).0
  pub within : nat_lt at.0 (length things.names) ≡ true
  pub shares : Shares s things others (worlds.make s.classes w class).1

-- what a new object holds
abbrev pub new_content : Bool → List FieldType → Content
new_content true types = Text []
new_content false types = Values (map first_value types)

abbrev pub Makes : ℕ → Bool → List FieldType → Things → Others → Things → Ref → Type 0
Makes number text types before others after at =
    (s : Setting) (w : World) → IsClass number text types s → AreDistinct s.heads → Shares s before others w → IsNew s (name_at s.heads number) w after others at

-- ---- fields

-- the fields of an object of a class, by its name and what it holds; none of arrays and of what has a text
abbrev pub fields_in : Option Name → Option Content → List Value
fields_in (Some (Made (Class class) k)) (Some (Values values)) = values
fields_in name content = []

abbrev pub fields_at : Things → ℕ → List Value
fields_at things at = fields_in (slice_get things.names at) (slice_get things.contents at)

-- the value of a field, or null where there is none
abbrev pub get_reply : Option Value → Reply
get_reply None = Gives Null
get_reply (Some v) = Gives v

-- the first place of a field
abbrev pub field_place : List Reference → Reference → Option ℕ
field_place [] r = None
field_place (f ∷ fields) r = if same_member f r then Some 0 else option_map suc (field_place fields r)

-- whether the object is one of the class that declares the field, and then the field's number among those of the object
pub record HasField (things : Things) (object : Option Ref) (r : Reference) (instance : Bool) (index : ℕ) (s : Setting) : Type 0 where
  pub is : (at : Ref) → object ≡ Some at → s.classes.is_subtype (class_of (name_of s.heads things.names at)) (declared s.classes r).class ≡ instance
  pub place : (at : Ref) → object ≡ Some at → instance ≡ true → field_place (s.classes.fields (class_of (name_of s.heads things.names at))) (declared s.classes r) ≡ Some index

-- the field holds such values
pub record HoldsSuch (r : Reference) (e : Element) (s : Setting) : Type 0 where
  pub element : element_of (declared s.classes r).member.descriptor ≡ e

-- each object has a value for each field of its class
pub record AreFilled (things : Things) (s : Setting) : Type 0 where
  pub each : (at : ℕ) → at < length things.names → length (fields_at things at) ≡ length (s.classes.fields (class_of (name_in s.heads (slice_get things.names at))))

-- texts, arrays and what stands for a class have no fields
pub record BareTypes (s : Setting) : Type 0 where
  pub texts : (class : List ℕ) → is_text_class class ≡ true → s.classes.fields class ≡ []
  pub arrays : (class : List ℕ) → is_array class ≡ true → s.classes.fields class ≡ []
  pub classes : s.classes.fields class_class ≡ []

-- where each object had them before, each has them then
abbrev pub StaysFilled : Things → Things → Setting → Type 0
StaysFilled before after s = BareTypes s → length before.contents ≡ length before.names → AreFilled before s → AreFilled after s

-- ---- objects that are there without being made

-- the object is of the machine's name, and the heap stands for the world as it was
pub record IsThere (s : Setting) (name : machine.Name) (things : Things) (others : Others) (w : World) (at : Ref) : Type 0 where
  pub named : name_of s.heads things.names at ≡ name
  pub within : nat_lt at.0 (length things.names) ≡ true
  pub shares : Shares s things others w

abbrev pub Finds : machine.Name → Things → Things → Ref → Type 0
Finds name before after at = (s : Setting) (others : Others) (w : World) → AreDistinct s.heads → Shares s before others w → IsThere s name after others w at
