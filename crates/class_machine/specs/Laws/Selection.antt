-- The method that a call runs is the one that is selected over the heads of the classes.
use Rattle.std.specs.Prelude.{◌≡◌, ℕ, Bool, true, false, if◌then◌else◌, List, Option, Some, None, is_some, unwrap_or, slice_get, option_and_then}
use Rattle.std.specs.Option.{option_map}
use Rattle.std.proofs.Common.{sym, ◌∙◌, ap, subst}
use Rattle.std.proofs.lemmas.Bool.{false≢true}
use Rattle.class_file.specs.Pool.{Reference}
use Rattle.class_heads.specs.declared.types.MethodHead.{MethodHead}
use Rattle.class_heads.specs.declared.types.ClassHead.{ClassHead}
use Rattle.class_heads.specs.Hierarchy.{superclasses}
use Rattle.class_heads.specs.Searches.{MemberPlace, is_private, selectable_in, first_found, selected}
use Rattle.class_heads.specs.Searches as heads
use Rattle.class_machine.specs.Values.{Held}
use Rattle.class_machine.specs.Classes.{Method, select}
use Rattle.class_machine.specs.Declarations.{method_found, rule_at, method_at, members_at, find_selectable, classes_of}

module _ (run : List ClassHead) (given : ℕ) (constant : Reference → Option Held) where
  module _ (class : List ℕ) (runtime : ℕ) (p : MemberPlace) (known : members_at run given constant class ≡ Some runtime) where
    abbrev stands : MemberPlace → Option Method
    stands q = method_at run given constant q

    abbrev IsChosen : Method → Option MethodHead → Type 0
    IsChosen m o = select (classes_of run given constant) class m ≡ option_and_then stands (selected run runtime p o)

    either : (m : Method) (h : MethodHead) (b : Bool) → stands p ≡ Some m → (if b then Some m else option_and_then stands (option_and_then (find_selectable run given constant h.name) (members_at run given constant class))) ≡ option_and_then stands (if b then Some p else first_found (selectable_in run h.name) (superclasses run runtime))
    either m h true found = sym found
    either m h false found = ap (λ o. option_and_then stands (option_and_then (find_selectable run given constant h.name) o)) known

    in_class : (m : Method) (c : ClassHead) (o : Option MethodHead) → stands p ≡ Some m → option_map (λ h. method_found (rule_at run given constant p.class c h) c h) o ≡ Some m → IsChosen m o
    in_class m c None found e = absurd (false≢true (ap is_some e))
    in_class m c (Some h) found e =
        subst (λ x. IsChosen x (Some h)) (ap (λ o. unwrap_or o m) e) (either (method_found (rule_at run given constant p.class c h) c h) h (is_private h) (found ∙ sym e))

    chosen : (m : Method) (o : Option ClassHead) → stands p ≡ Some m → option_and_then (λ c. option_map (λ h. method_found (rule_at run given constant p.class c h) c h) (slice_get c.methods p.position)) o ≡ Some m → IsChosen m (option_and_then (λ c. slice_get c.methods p.position) o)
    chosen m None found e = absurd (false≢true (ap is_some e))
    chosen m (Some c) found e = in_class m c (slice_get c.methods p.position) found e

    -- of a call that found the method at this place, on an object of the class
    pub selects_over_heads : (m : Method) → method_at run given constant p ≡ Some m → select (classes_of run given constant) class m ≡ option_and_then (method_at run given constant) (heads.select run runtime p)
    selects_over_heads m found = chosen m (slice_get run p.class) found found
