-- A heap of the class machine, and the one of this crate that stands for it: two objects of a class, which refer to each
-- other, and a String between them.
use Rattle.std.specs.Prelude.{◌≡◌, ℕ, List, [], ◌∷◌, codes, pos, Some, None}
use Rattle.std.proofs.Common.{refl}
use Rattle.class_file.specs.Pool.{Reference}
use Rattle.class_heads.specs.declared.types.ClassHead.{ClassHead}
use Rattle.class_machine.specs.Values as machine
use Rattle.class_machine.specs.World as worlds
use Rattle.class_machine.specs.Classes.{reference}
use Rattle.machine_values.specs.declared.values.Ref.{Ref}
use Rattle.machine_values.specs.declared.values.Value.{Value}
use Rattle.machine_values.specs.declared.values.Value.TheVariants.{Int, Null, Reference as Pointer}
use Rattle.machine_values.specs.declared.names.Maker.TheVariants.{Class}
use Rattle.machine_values.specs.declared.names.Name.TheVariants.{Made, Literal}
use Rattle.machine_values.specs.declared.content.Content.TheVariants.{Values, Text, Fixed}
use Rattle.machine_values.specs.Things.{Things, nothing, with_made, with_constant, changed}
use Rattle.machine_values.specs.Standing.{IsHeapOf}

abbrev head : List ℕ → ClassHead
head name = record { name = name; version = 46; flags = record { 0 = 0x0021 }; super_class = Some (codes "java/lang/Object"); interfaces = []; fields = []; methods = [] }

abbrev heads : List ClassHead
heads = head (codes "pkg/Node") ∷ head (codes "java/lang/String") ∷ []

abbrev next : Reference
next = reference (codes "pkg/Node") (codes "next") (codes "Lpkg/Node;")

abbrev size : Reference
size = reference (codes "pkg/Node") (codes "size") (codes "I")

abbrev fields : List ℕ → List Reference
fields class = next ∷ size ∷ []

abbrev at : ℕ → Value
at place = Pointer (record { 0 = place })

abbrev things : Things
things =
    let first = (with_made nothing (Class (record { 0 = 0 })) (Values (Null ∷ Int (pos 0) ∷ []))).1 in
    let literal = (with_constant first (Literal (codes "a"))).1 in
    let text = (with_made literal (Class (record { 0 = 1 })) (Text (codes "b"))).1 in
    let second = (with_made text (Class (record { 0 = 0 })) (Values (at 0 ∷ Int (pos 7) ∷ []))).1 in
    changed second 0 (Values (at 3 ∷ Int (pos 0) ∷ []))

abbrev node : ℕ → machine.Name
node k = machine.Made (codes "pkg/Node") k

stands : IsHeapOf heads fields things
    ((node 2, worlds.Instance ((next, machine.Reference (node 1)) ∷ (size, machine.Int (pos 7)) ∷ []))
    ∷ (machine.Made (codes "java/lang/String") 1, worlds.Text (codes "b"))
    ∷ (node 1, worlds.Instance ((next, machine.Reference (node 2)) ∷ (size, machine.Int (pos 0)) ∷ [])) ∷ [])
stands = record { whole = refl; settled = ((refl, (refl, tt)), (tt, (tt, ((refl, (refl, tt)), tt)))); same = refl }
