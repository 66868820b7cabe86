-- Objects that serve as receivers.
use Rattle.std.specs.Prelude.{◌≡◌, ℕ, ◌<◌, ◌||◌, Bool, true, false, List, length, slice_get, Some, refl}
use Rattle.std.specs.Option.{option_and_then}
use Rattle.std.proofs.Common.{sym, ◌∙◌, ap}
use Rattle.class_heads.specs.declared.types.ClassHead.{ClassHead}
use Rattle.class_heads.specs.Faults.{is_class_that}
use Rattle.class_heads.specs.Hierarchy.{is_interface, class_named, name_at}
use Rattle.class_heads.specs.PlaceLaws.{class_named-place}
use Rattle.class_world.specs.Tables.{Known}
use Rattle.class_machine.specs.ClassFiles.{class_code}
use Rattle.class_machine.specs.Classes.{Method}
use Rattle.class_machine.specs.Turn as turns
use Rattle.class_machine.specs.Values.{class_of}
use Rattle.machine_values.specs.declared.values.Ref.{Ref}
use Rattle.machine_values.specs.Standing.{name_of}
use Rattle.machine_values.specs.Things.{Things}
use Rattle.machine_fields.specs.Settings.{world_setting}
use Rattle.machine_requests.specs.Objects.{IsBelow}
use Rattle.machine_requests.specs.Telling.{AreDistinct}
use Rattle.machine_steps.proofs.Catching.{name_here}
use Rattle.machine_invocations.specs.Methods.{classes_in}

module _ (k : Known) (place : ℕ) (head : ClassHead) (m : Method) (distinct : AreDistinct k.heads) (within : place < length k.heads) (at : slice_get k.heads place ≡ Some head) (named : name_at k.heads place ≡ m.name.class) where
  interface_is : (classes_in k).is_interface m.name.class ≡ is_interface head
  interface_is =
      ap (λ (n : List ℕ). is_class_that is_interface (class_named k.heads n)) (sym named)
      ∙ ap (is_class_that is_interface) (class_named-place k.heads (name_at k.heads place) ∙ ap (option_and_then (slice_get k.heads)) (distinct.different place within) ∙ at)

  module _ (heap : Things) (ref : Ref) where
    pub interface_serves : is_interface head ≡ true → turns.serves_as (class_code k.files) (classes_in k) (name_of k.heads heap.names ref) m ≡ true
    interface_serves e = ap (λ (b : Bool). b || (classes_in k).is_subtype (class_of (name_of k.heads heap.names ref)) m.name.class) (interface_is ∙ e)

    pub class_serves : (below : Bool) → is_interface head ≡ false → IsBelow heap (Some ref) head.name below (world_setting k) → turns.serves_as (class_code k.files) (classes_in k) (name_of k.heads heap.names ref) m ≡ below
    class_serves below e is =
        ap (λ (b : Bool). b || (classes_in k).is_subtype (class_of (name_of k.heads heap.names ref)) m.name.class) (interface_is ∙ e)
        ∙ ap ((classes_in k).is_subtype (class_of (name_of k.heads heap.names ref))) (sym named ∙ name_here k.heads place head at) ∙ is.is ref refl
