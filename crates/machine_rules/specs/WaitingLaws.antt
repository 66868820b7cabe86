-- A wait, by the names of its objects, is the machine's.
use Rattle.std.specs.Prelude.{◌≡◌, ℕ, List, [], Option, Some, None, refl}
use Rattle.std.proofs.Common.{ap}
use Rattle.class_file.specs.Pool.{Reference}
use Rattle.class_heads.specs.declared.types.ClassHead.{ClassHead}
use Rattle.class_machine.specs.Classes.{reference}
use Rattle.class_machine.specs.LibraryCalls as calls
use Rattle.machine_values.specs.declared.frames.Destination.{Destination}
use Rattle.machine_values.specs.declared.frames.Destination.TheVariants.{Prints, Appends, Gives}
use Rattle.machine_values.specs.declared.frames.Wait.{Wait}
use Rattle.machine_values.specs.declared.names.Name.{Name}
use Rattle.machine_values.specs.declared.values.Ref.{Ref}
use Rattle.machine_values.specs.Standing.{name_of}
use Rattle.machine_values.specs.States.{machine_destination, described}
use Rattle.machine_requests.specs.Shares.{Setting}
use Rattle.machine_rules.specs.Waiting.{wait_of}
use Rattle.machine_rules.specs.Works.{Waits}

module _ (heads : List ClassHead) (methods others : ℕ → Reference) (names : List Name) where
  destination_same : (to : Destination) → machine_destination heads methods names to ≡ machine_destination heads others names to
  destination_same (Prints line) = refl
  destination_same (Appends buffer) = refl
  destination_same Gives = refl

  described_same : (o : Option Ref) (to : Destination) → described heads methods names o (machine_destination heads methods names to) ≡ described heads others names o (machine_destination heads others names to)
  described_same None to = destination_same to
  described_same (Some x) to = ap (calls.Describes (name_of heads names x)) (destination_same to)

-- whatever the names of methods are
pub wait_waits : (s : Setting) (names : List Name) (wait : Wait) → Waits s names wait (wait_of s names wait)
wait_waits s names wait methods = described_same s.heads methods (λ n. reference [] [] []) names wait.describes wait.destination
