-- Static fields by their numbers.
use Rattle.std.specs.Prelude.{◌≡◌, ℕ, ◌<◌, ◌==◌, Bool, true, false, if◌then◌else◌, List, Option}
use Rattle.class_file.specs.Pool.{Reference}
use Rattle.class_machine.specs.declared.kinds.Element.{Element}
use Rattle.class_machine.specs.Descriptors.{element_of}
use Rattle.class_machine.specs.Classes.{same_member}
use Rattle.class_machine.specs.Answers.{declared}
use Rattle.machine_values.specs.declared.values.Value.{Value}
use Rattle.machine_values.specs.declared.values.Value.TheVariants.{Int, Long, Float, Double, Null, Reference as Pointer}
use Rattle.machine_values.specs.Standing.{held}
use Rattle.machine_values.specs.Things.{Things}
use Rattle.machine_requests.specs.declared.reply.Reply.{Reply}
use Rattle.machine_requests.specs.declared.reply.Reply.TheVariants.{Gives, Refuses}
use Rattle.machine_requests.specs.Shares.{Setting, Others}

-- a value of the kind that operands have for such elements
abbrev pub is_of : Element → Value → Bool
is_of Element.Long (Long n) = true
is_of Element.Long v = false
is_of Element.Float (Float bits) = true
is_of Element.Float v = false
is_of Element.Double (Double bits) = true
is_of Element.Double v = false
is_of Element.Reference Null = true
is_of Element.Reference (Pointer at) = true
is_of Element.Reference v = false
is_of e (Int n) = true
is_of e v = false

-- the value where operands have it for such a field, or else Broken
abbrev pub read_reply : Bool → Value → Reply
read_reply fits v = if fits then Gives v else Refuses

-- the field that a reference names is the one of this number, which holds such values
pub record IsField (r : Reference) (number : ℕ) (e : Element) (s : Setting) : Type 0 where
  pub declared : declared s.classes r ≡ s.field_names number
  pub element : element_of (s.field_names number).member.descriptor ≡ e

-- the value is what the field holds from the start
pub record IsInitial (things : Things) (number : ℕ) (initial : Value) (s : Setting) : Type 0 where
  pub same : s.classes.initial (s.field_names number) ≡ held s.heads things.names initial

-- of the first so many fields, two have the same name only if they are the same (JVMS 4.5)
pub record AreApart (count : ℕ) (s : Setting) : Type 0 where
  pub apart : (a b : ℕ) → a < count → b < count → same_member (s.field_names a) (s.field_names b) ≡ (a == b)

abbrev pub with_statics : Others → List (Option Value) → Others
with_statics others statics = record others { statics = statics }
