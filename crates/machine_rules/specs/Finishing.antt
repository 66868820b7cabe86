-- What is done with a text.
use Rattle.std.specs.Prelude.{ℕ, Bool, true, false, List, [], slice_get, Option, Some, None}
use Rattle.std.specs.Option.{option_and_then}
use Rattle.class_machine.specs.Classes.{reference}
use Rattle.class_machine.specs.LibraryCalls as calls
use Rattle.class_machine.specs.World as worlds
use Rattle.class_machine.specs.World.{World, set_object}
use Rattle.machine_values.specs.declared.frames.Destination.{Destination}
use Rattle.machine_values.specs.declared.names.Name.{Name}
use Rattle.machine_values.specs.declared.names.Name.TheVariants.{Made}
use Rattle.machine_values.specs.declared.values.Ref.{Ref}
use Rattle.machine_values.specs.declared.values.Value.{Value}
use Rattle.machine_values.specs.declared.values.Value.TheVariants.{Null, Reference as Pointer}
use Rattle.machine_values.specs.Standing.{name_of}
use Rattle.machine_values.specs.States.{machine_destination}
use Rattle.machine_values.specs.Things.{Things}
use Rattle.machine_requests.specs.Shares.{Setting, Others, Shares}
use Rattle.machine_requests.specs.Telling.{AreDistinct}
use Rattle.machine_rules.specs.Texts.{text_at}

-- an object that was made
abbrev pub is_made_name : Option Name → Bool
is_made_name (Some (Made maker k)) = true
is_made_name name = false

abbrev pub is_made_at : Things → ℕ → Bool
is_made_at things at = is_made_name (slice_get things.names at)

-- the object holds these units then
abbrev pub Sets : Things → Ref → List ℕ → Things → Type 0
Sets before at units after =
    (s : Setting) (others : Others) (w : World) → AreDistinct s.heads → Shares s before others w → Shares s after others (set_object w (name_of s.heads before.names at) (worlds.Text units))

-- where a text goes, by the names of objects
abbrev pub destination_of : Setting → List Name → Destination → calls.Wait
destination_of s names to = machine_destination s.heads (λ n. reference [] [] []) names to

-- the text of an object that may be null
abbrev pub text_of : Things → Option Ref → Option (List ℕ)
text_of things text = option_and_then (λ (at : Ref). text_at things at.0) text

abbrev pub reference_to : Option Ref → Value
reference_to None = Null
reference_to (Some at) = Pointer at
