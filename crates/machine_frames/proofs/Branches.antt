-- References are compared by their places.
use Rattle.std.proofs.Common.{◌≡◌, ℕ, Bool, true, List, Option, sym, ◌∙◌, ap}
use Rattle.class_machine.specs.Values as machine
use Rattle.class_machine.specs.Values.{same_object}
use Rattle.class_machine.specs.ClassFiles.{Place}
use Rattle.class_machine.specs.Effect as definition
use Rattle.machine_values.specs.declared.values.Ref.{Ref}
use Rattle.machine_values.specs.Stacks.{Stack}
use Rattle.machine_values.specs.States.{is_known_object}
use Rattle.machine_frames.specs.Naming.{Naming, Faithful, reference, values}
use Rattle.machine_frames.specs.Effects.{AreKnown}
use Rattle.machine_frames.specs.Operands.{PopsReference, StaysKnown, IsKnownReference}

pub goes_by_places : (s t u : Stack) (a b : Option Ref) (same found taken : Bool) → PopsReference s b t → PopsReference t a u → StaysKnown s t → IsKnownReference s b → IsKnownReference t a
    → ((n : Naming) (count : ℕ) → Faithful n count → is_known_object count a ≡ true → is_known_object count b ≡ true → found ≡ same_object (reference n a) (reference n b))
    → definition.agrees same found ≡ taken
    → (n : Naming) (count : ℕ) → Faithful n count → AreKnown count s.values → (method : ℕ) (ls : List (machine.Local Place))
    → definition.branch taken (values n method u.values) ls ≡ definition.if_references same (values n method s.values) ls
goes_by_places s t u a b same found taken p q stays known_b known_a by_places e n count faithful all method ls =
    sym (p n method (λ x rest. definition.pop_reference rest (λ y under. definition.branch (definition.agrees same (same_object y x)) under ls))
    ∙ q n method (λ y under. definition.branch (definition.agrees same (same_object y (reference n b))) under ls)
    ∙ ap (λ f. definition.branch (definition.agrees same f) (values n method u.values) ls) (sym (by_places n count faithful (known_a.known count (stays.stays count all)) (known_b.known count all)))
    ∙ ap (λ b. definition.branch b (values n method u.values) ls) e)
