-- What arrays that were made stand for.
use Rattle.std.specs.Prelude.{◌≡◌, ℕ, ◌-◌, true, List, [], ◌++◌, length, ℤ}
use Rattle.aj_names.specs.declared.types.FieldType.{FieldType}
use Rattle.class_heads.specs.Hierarchy.{is_array}
use Rattle.class_machine.specs.Values as machine
use Rattle.class_machine.specs.Values.{Held}
use Rattle.class_machine.specs.World.{World}
use Rattle.class_machine.specs.Answers.{make_arrays}
use Rattle.machine_values.specs.declared.values.Ref.{Ref}
use Rattle.machine_values.specs.declared.content.Content.{Content}
use Rattle.machine_values.specs.Things.{Things}
use Rattle.machine_values.specs.Types.{type_name}
use Rattle.machine_values.specs.Standing.{name_of}
use Rattle.machine_requests.specs.Objects.{AreFilled}
use Rattle.machine_requests.specs.Replies.{IsLonger}
use Rattle.machine_requests.specs.Shares.{Setting, Others, Shares}
use Rattle.machine_requests.specs.Telling.{AreDistinct}

-- of the elements of an array
abbrev pub element_type : FieldType → FieldType
element_type array = record { base = array.base; dims = array.dims - 1 }

-- the object, and the heap, stand for what the machine made
pub record IsMade (s : Setting) (after : Things) (others : Others) (at : Ref) (made : Held × World) : Type 0 where
  pub value : machine.Reference (name_of s.heads after.names at) ≡ made.0
  pub shares : Shares s after others made.1

-- Whatever world they stood for, the heap and the others then stand for the one with the array and those in it.
abbrev pub Makes : Things → Things → FieldType → List ℤ → Ref → Type 0
Makes before after type sizes at =
    (s : Setting) (others : Others) (w : World) → AreDistinct s.heads → Shares s before others w → IsMade s after others at (make_arrays (type_name type) sizes w)

-- What was there keeps its place and what it holds.
pub record Extends (before after : Things) : Type 0 where
  pub names : IsLonger before after
  pub contents : List Content
  pub longer : after.contents ≡ before.contents ++ contents
  pub whole : length after.contents ≡ length after.names

-- Where arrays have no fields, each object has a value for each field of its class still.
abbrev pub KeepsFilled : Things → Things → Setting → Type 0
KeepsFilled before after s =
    ((class : List ℕ) → is_array class ≡ true → s.classes.fields class ≡ []) → length before.contents ≡ length before.names → AreFilled before s → AreFilled after s
