-- What objects tell of themselves.
use Rattle.std.specs.Prelude.{◌≡◌, ℕ, ◌<◌, ◌++◌, ◌∷◌, Bool, List, [], length, slice_get, Option, Some, None, refl}
use Rattle.std.proofs.Common.{sym, ◌∙◌, ap, subst, append_assoc}
use Rattle.std.proofs.lemmas.Bool.{ltb-true}
use Rattle.class_file.specs.Pool.{Reference}
use Rattle.boot_library.specs.declared.rule.LibraryRule.TheVariants as rule
use Rattle.class_world.specs.Tables.{Known}
use Rattle.class_machine.specs.Answers.{truth}
use Rattle.class_machine.specs.LibraryCalls as calls
use Rattle.class_machine.specs.Numbers.{hexadecimal}
use Rattle.class_machine.specs.Texts.{class_text}
use Rattle.class_machine.specs.World.{World}
use Rattle.machine_values.specs.declared.names.Name.{Name}
use Rattle.machine_values.specs.declared.names.Name.TheVariants.{Made, Literal, ClassObject}
use Rattle.machine_values.specs.declared.values.Ref.{Ref}
use Rattle.machine_values.specs.declared.values.Value.{Value}
use Rattle.machine_values.specs.declared.values.Value.TheVariants.{Int, Long, Float, Double, Null, Reference as Pointer, Token, ReturnAddress}
use Rattle.machine_values.specs.Standing.{name_in, name_of, held, Settled}
use Rattle.machine_values.specs.Things.{Things}
use Rattle.machine_requests.specs.Shares.{Others}
use Rattle.machine_requests.specs.Telling.{AreDistinct}
use Rattle.machine_requests.specs.TellingLaws.{named_at, places_tell}
use Rattle.machine_rules.specs.declared.work.Work.{Work}
use Rattle.machine_rules.specs.declared.work.Work.TheVariants.{Results}
use Rattle.machine_rules.specs.Texts.{class_object_in, class_object_text, is_same_place, truth_value}
use Rattle.machine_rules.specs.Works.{setting_of, Holds, Does}
use Rattle.machine_rules.proofs.Giving.{given_value, done_same, truth_same, truth_settled}

same_place : (k : Known) (names : ℕ → Reference) (things : Things) (others : Others) (w : World) (at : Ref) (v : Value) → AreDistinct k.heads → Holds (setting_of k names) things others w
    → at.0 < length things.names → Settled (length things.names) v → is_same_place at v ≡ calls.same_held (name_of k.heads things.names at) (held k.heads things.names v)
same_place k names things others w at (Pointer b) distinct holds known other =
    sym (places_tell k.heads things.names distinct holds.shares.heap.numbered holds.shares.fit at.0 b.0 known (ltb-true b.0 (length things.names) other))
same_place k names things others w at Null distinct holds known other = refl
same_place k names things others w at (Int n) distinct holds known other = refl
same_place k names things others w at (Long n) distinct holds known other = refl
same_place k names things others w at (Float bits) distinct holds known other = refl
same_place k names things others w at (Double bits) distinct holds known other = refl
same_place k names things others w at (Token class number) distinct holds known other = refl
same_place k names things others w at (ReturnAddress pc) distinct holds known other = refl

pub same_object_given : (k : Known) (things : Things) (at : Ref) (v : Value) (b : Bool) (shown : Value) → at.0 < length things.names → Settled (length things.names) v → b ≡ is_same_place at v → shown ≡ truth_value b
    → Does k things (λ s ns w. calls.with_argument s.classes w rule.SameObject (name_of s.heads ns at) (held s.heads ns v)) things (Results None (Some shown))
same_object_given k things at v b shown known other is told =
    subst (λ (x : Value). Does k things (λ s ns w. calls.with_argument s.classes w rule.SameObject (name_of s.heads ns at) (held s.heads ns v)) things (Results None (Some x))) (sym told)
    (given_value k things (truth_value b) (λ s ns w. truth (calls.same_held (name_of s.heads ns at) (held s.heads ns v))) (truth_settled (length things.names) b)
    (λ names others w distinct holds. truth_same k.heads things.names b ∙ ap truth (is ∙ same_place k names things others w at v distinct holds known other)))

-- ---- the class that an object stands for

abbrev pub of_class_text : World → Option (List ℕ) → calls.Work
of_class_text w None = calls.Misuses
of_class_text w (Some units) = calls.new_text units w

class_name_same : (k : Known) (things : Things) (at : Ref) (w : World) → at.0 < length things.names → calls.class_name w (name_of k.heads things.names at) ≡ of_class_text w (class_object_text things at.0)
class_name_same k things at w known = let name = named_at things.names at.0 known in by name.0 name.1 where
  by : (n : Name) → slice_get things.names at.0 ≡ Some n → calls.class_name w (name_of k.heads things.names at) ≡ of_class_text w (class_object_text things at.0)
  by (Made maker j) there = ap (λ o. calls.class_name w (name_in k.heads o)) there ∙ sym (ap (λ o. of_class_text w (class_object_in o)) there)
  by (Literal units) there = ap (λ o. calls.class_name w (name_in k.heads o)) there ∙ sym (ap (λ o. of_class_text w (class_object_in o)) there)
  by (ClassObject type) there = ap (λ o. calls.class_name w (name_in k.heads o)) there ∙ sym (ap (λ o. of_class_text w (class_object_in o)) there)

pub class_name_done : (k : Known) (things : Things) (at : Ref) (text : Option (List ℕ)) (after : Things) (work : Work) → at.0 < length things.names → class_object_text things at.0 ≡ text
    → Does k things (λ s ns w. of_class_text w text) after work → Does k things (λ s ns w. calls.class_name w (name_of s.heads ns at)) after work
class_name_done k things at text after work known is done =
    done_same k things (λ s ns w. of_class_text w text) (λ s ns w. calls.class_name w (name_of s.heads ns at)) after work
    (λ names others w distinct holds. class_name_same k things at w known ∙ ap (of_class_text w) is) done

-- ---- texts of objects

pub description_is : (empty named pushed all class : List ℕ) (name : List ℕ) (number : ℕ) (n : ℕ) → empty ≡ [] → named ≡ empty ++ class_text class → pushed ≡ named ++ 64 ∷ [] → all ≡ pushed ++ hexadecimal n → class ≡ name → n ≡ number
    → all ≡ class_text name ++ 64 ∷ hexadecimal number
description_is empty named pushed all class name number n e a b h is same =
    h ∙ ap (λ (l : List ℕ). l ++ hexadecimal n) (b ∙ ap (λ (l : List ℕ). l ++ 64 ∷ []) (a ∙ ap (λ (l : List ℕ). l ++ class_text class) e))
    ∙ append_assoc (class_text class) (64 ∷ []) (hexadecimal n)
    ∙ ap (λ (l : List ℕ). class_text l ++ 64 ∷ hexadecimal n) is ∙ ap (λ (x : ℕ). class_text name ++ 64 ∷ hexadecimal x) same
