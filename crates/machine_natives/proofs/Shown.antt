-- Values of calls, as events show them.
use Rattle.std.specs.Prelude.{◌≡◌, ℕ, zero, suc, ◌+◌, ◌<◌, ◌≤◌, List, [], ◌∷◌, ◌++◌, map, take, length, Option, Some, None, refl}
use Rattle.std.specs.List.{AllByRecursion}
use Rattle.std.specs.Option.{option_map}
use Rattle.std.proofs.Common.{get_or, sym, ap, ◌∙◌, subst, arith}
use Rattle.std.proofs.lemmas.List.{map-append, take_all, take_more}
use Rattle.class_file.specs.Pool.{Reference}
use Rattle.class_heads.specs.declared.types.ClassHead.{ClassHead}
use Rattle.class_heads.specs.declared.types.MethodHead.{MethodHead}
use Rattle.class_world.specs.Tables.{Known}
use Rattle.aj_names.specs.declared.types.MethodName.{MethodName}
use Rattle.class_machine.specs.Classes.{reference, Method}
use Rattle.class_machine.specs.Events as events
use Rattle.class_machine.specs.Turn.{with_receiver}
use Rattle.class_machine.specs.Values as machine
use Rattle.class_machine.specs.World.{shown}
use Rattle.machine_values.specs.declared.observed.Event.TheVariants as event
use Rattle.machine_values.specs.declared.observed.Shown.{Shown}
use Rattle.machine_values.specs.declared.values.Ref.{Ref}
use Rattle.machine_values.specs.declared.values.Value.{Value}
use Rattle.machine_values.specs.declared.values.Value.TheVariants.{Reference as Pointer}
use Rattle.machine_values.specs.Observed.{machine_shown, method_reference}
use Rattle.machine_values.specs.Standing.{name_of, held, Settled}
use Rattle.machine_values.specs.Things.{Things}
use Rattle.machine_invocations.specs.Methods.{declared_as, Sees}
use Rattle.machine_invocations.specs.Showing.{Shows, AreShown}
use Rattle.machine_natives.specs.Calls.{values_given, ShowsCall}

module _ (k : Known) (things : Things) where
  pub none_shown : AreShown k things [] []
  none_shown m others w is shares = refl

  pub more_shown : (vs : List Value) (v : Value) (seen : List Shown) (one : Shown) → AreShown k things vs seen → Shows k things v one → AreShown k things (vs ++ v ∷ []) (seen ++ one ∷ [])
  more_shown vs v seen one all shows m others w is shares =
      let f : Value → events.Shown = λ x. shown w (held m.setting.heads things.names x) in
      map-append machine_shown seen (one ∷ []) ∙ ap (λ l. l ++ machine_shown one ∷ []) (all m others w is shares)
      ∙ ap (λ s. map f vs ++ s ∷ []) (shows m others w is shares) ∙ sym (map-append f vs (v ∷ []))

  pub next_shown : (receiver : Option Ref) (given : List Value) (i : ℕ) (v : Value) (seen : List Shown) (one : Shown) → i < length given → v ≡ get_or given i v → AreShown k things (values_given receiver (take i given)) seen → Shows k things v one
      → AreShown k things (values_given receiver (take (i + 1) given)) (seen ++ one ∷ [])
  next_shown receiver given i v seen one within here all shows =
      subst (λ vs. AreShown k things vs (seen ++ one ∷ [])) (sym (with_one receiver (take i given) (take (i + 1) given) (take_more given i v within ∙ ap (λ x. take i given ++ x ∷ []) (sym here))))
      (more_shown (values_given receiver (take i given)) v seen one all shows) where
        with_one : (o : Option Ref) (xs ys : List Value) → ys ≡ xs ++ v ∷ [] → values_given o ys ≡ values_given o xs ++ v ∷ []
        with_one None xs ys e = e
        with_one (Some at) xs ys e = ap (λ l. Pointer at ∷ l) e

  pub all_shown : (receiver : Option Ref) (given : List Value) (i : ℕ) (seen : List Shown) → length given ≤ i → AreShown k things (values_given receiver (take i given)) seen → AreShown k things (values_given receiver given) seen
  all_shown receiver given i seen past all = subst (λ vs. AreShown k things (values_given receiver vs) seen) (take_all i given past) all

  -- ---- the event

  pub event_shown : (number : ℕ) (receiver : Option Ref) (given : List Value) (name : MethodName) (seen : List Shown) → ((callee : Method) → Sees k number callee → method_reference name ≡ callee.name) → AreShown k things (values_given receiver given) seen
      → ShowsCall k things number receiver given (event.Native name seen)
  event_shown number receiver given name seen named all m others w callee is sees shares =
      ap (λ (r : Reference). events.Native r (map machine_shown seen)) (named callee sees)
      ∙ ap (events.Native callee.name) (all m others w is shares ∙ parts receiver) where
        f : Value → events.Shown
        f v = shown w (held m.setting.heads things.names v)

        each : (vs : List Value) → map (λ v. shown w (held m.setting.heads things.names v)) vs ≡ map (shown w) (map (held m.setting.heads things.names) vs)
        each [] = refl
        each (v ∷ vs) = ap (λ l. shown w (held m.setting.heads things.names v) ∷ l) (each vs)

        parts : (o : Option Ref) → map (λ v. shown w (held m.setting.heads things.names v)) (values_given o given) ≡ map (shown w) (with_receiver (option_map (name_of m.setting.heads things.names) o) (map (held m.setting.heads things.names) given))
        parts None = each given
        parts (Some at) = ap (λ l. shown w (machine.Reference (name_of m.setting.heads things.names at)) ∷ l) (each given)

-- ---- names of methods

pub method_named : (k : Known) (place : ℕ) (class : ClassHead) (method : MethodHead) (callee : Method) (c n d : List ℕ) → callee ≡ declared_as k place class method → c ≡ class.name → n ≡ method.name.name → d ≡ method.name.descriptor → reference c n d ≡ callee.name
method_named k place class method callee c n d seen same_class same_name same_descriptor =
    ap (λ x. reference x n d) same_class ∙ ap (λ x. reference class.name x d) same_name ∙ ap (reference class.name method.name.name) same_descriptor ∙ sym (ap (λ (x : Method). x.name) seen)

-- ---- values that are settled

pub all_so_far : (n : ℕ) (vs : List Value) (i : ℕ) (v : Value) → i < length vs → v ≡ get_or vs i v → Settled n v → AllByRecursion (Settled n) (take i vs) → AllByRecursion (Settled n) (take (i + 1) vs)
all_so_far n vs i v within here settled all =
    subst (AllByRecursion (Settled n)) (sym (take_more vs i v within ∙ ap (λ x. take i vs ++ x ∷ []) (sym here))) (pushed (take i vs) all) where
      pushed : (xs : List Value) → AllByRecursion (Settled n) xs → AllByRecursion (Settled n) (xs ++ v ∷ [])
      pushed [] h = (settled, tt)
      pushed (x ∷ xs) h = (h.0, pushed xs h.1)

pub one_unsettled : (n : ℕ) (vs : List Value) (i : ℕ) (v : Value) → i < length vs → v ≡ get_or vs i v → (Settled n v → ⊥) → AllByRecursion (Settled n) vs → ⊥
one_unsettled n [] i v within here none all = absurd (omega arith)
one_unsettled n (x ∷ vs) zero v within here none all = none (subst (Settled n) (sym here) all.0)
one_unsettled n (x ∷ vs) (suc i) v within here none all = one_unsettled n vs i v (omega arith) here none all.1

pub settled_at : (n : ℕ) (vs : List Value) (i : ℕ) (v : Value) → i < length vs → v ≡ get_or vs i v → AllByRecursion (Settled n) vs → Settled n v
settled_at n [] i v within here all = absurd (omega arith)
settled_at n (x ∷ vs) zero v within here all = subst (Settled n) (sym here) all.0
settled_at n (x ∷ vs) (suc i) v within here all = settled_at n vs i v (omega arith) here all.1
