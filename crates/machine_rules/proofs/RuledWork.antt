-- What a rule does, by the kinds of calls.
use Rattle.std.specs.Prelude.{◌≡◌, ◌<◌, ◌≤◌, List, [], ◌∷◌, map, length, slice_get, None, refl}
use Rattle.std.specs.Option.{unwrap_or}
use Rattle.std.proofs.Common.{sym, ◌∙◌, ap, subst, arith}
use Rattle.std.proofs.lemmas.List.{append-nil, take_all}
use Rattle.boot_library.specs.declared.rule.LibraryRule.{LibraryRule}
use Rattle.boot_library.specs.declared.rule.LibraryRule.TheVariants as rule
use Rattle.class_heads.specs.declared.types.ClassHead.{ClassHead}
use Rattle.class_world.specs.Tables.{Known}
use Rattle.class_machine.specs.Classes.{Classes}
use Rattle.class_machine.specs.LibraryCalls as calls
use Rattle.class_machine.specs.World.{World}
use Rattle.machine_values.specs.declared.values.Ref.{Ref}
use Rattle.machine_values.specs.declared.values.Value.{Value}
use Rattle.machine_values.specs.declared.values.Value.TheVariants.{Int, Long, Float, Double, Null, Reference as Pointer, Token, ReturnAddress}
use Rattle.machine_values.specs.Standing.{name_of, held}
use Rattle.machine_values.specs.Things.{Things}
use Rattle.machine_requests.specs.Objects.{AreFilled}
use Rattle.machine_requests.specs.Replies.{IsLonger}
use Rattle.machine_requests.specs.Shares.{Setting, Shares}
use Rattle.machine_rules.specs.declared.work.Work.{Work}
use Rattle.machine_rules.specs.declared.work.Work.TheVariants.{Results, Throws, Faults, Calls, Loads, Exits, Misuses}
use Rattle.machine_rules.specs.Fields.{AreWhole, StaysWhole}
use Rattle.machine_rules.specs.Filling.{FillsStill}
use Rattle.machine_rules.specs.Library.{HasLibrary}
use Rattle.machine_rules.specs.Works.{setting_of, IsSettingOf, Asked, Works, Does, DoesAnywhere, DoesWhole, Grows, ChangesBy}
use Rattle.machine_rules.proofs.Bare.{bare_types}

-- ---- work that does nothing

pub nothing_done : (k : Known) (things : Things) (at : Ref) → Does k things (λ s ns w. calls.on_object s.classes w rule.DoNothing (name_of s.heads ns at)) things (Results None None)
nothing_done k things at names others w distinct holds = record { world = w; same = refl; settled = tt; holds = holds }

pub misused : (k : Known) (things : Things) (asked : Asked) → ((s : Setting) (w : World) → asked s things.names w ≡ calls.Misuses) → Does k things asked things Misuses
misused k things asked none names others w distinct holds = record { same = none (setting_of k names) w; holds = holds }

pub exits : (k : Known) (things : Things) (v : Value) (n : _) → v ≡ Int n → Does k things (λ s ns w. calls.by_static_rule s.classes w rule.Exit (held s.heads ns v ∷ [])) things (Exits n)
exits k things v n is names others w distinct holds = record {
  same = ap (λ (u : Value). calls.by_static_rule (setting_of k names).classes w rule.Exit (held k.heads things.names u ∷ [])) is;
  holds = holds;
}

pub no_status : (k : Known) (things : Things) (v : Value) → ((n : _) → v ≡ Int n → ⊥) → Does k things (λ s ns w. calls.by_static_rule s.classes w rule.Exit (held s.heads ns v ∷ [])) things Misuses
no_status k things v none = misused k things (λ s ns w. calls.by_static_rule s.classes w rule.Exit (held s.heads ns v ∷ [])) (λ s w. by s w v none) where
  by : (s : Setting) (w : World) (v : Value) → ((n : _) → v ≡ Int n → ⊥) → calls.by_static_rule s.classes w rule.Exit (held s.heads things.names v ∷ []) ≡ calls.Misuses
  by s w (Int n) none = absurd (none n refl)
  by s w (Long n) none = refl
  by s w (Float n) none = refl
  by s w (Double n) none = refl
  by s w Null none = refl
  by s w (Pointer b) none = refl
  by s w (Token c n) none = refl
  by s w (ReturnAddress p) none = refl

pub no_index : (k : Known) (things : Things) (at : Ref) (v : Value) → ((n : _) → v ≡ Int n → ⊥) → Does k things (λ s ns w. calls.with_argument s.classes w rule.CharAt (name_of s.heads ns at) (held s.heads ns v)) things Misuses
no_index k things at v none = misused k things (λ s ns w. calls.with_argument s.classes w rule.CharAt (name_of s.heads ns at) (held s.heads ns v)) (λ s w. by s w v none) where
  by : (s : Setting) (w : World) (v : Value) → ((n : _) → v ≡ Int n → ⊥) → calls.with_argument s.classes w rule.CharAt (name_of s.heads things.names at) (held s.heads things.names v) ≡ calls.Misuses
  by s w (Int n) none = absurd (none n refl)
  by s w (Long n) none = refl
  by s w (Float n) none = refl
  by s w (Double n) none = refl
  by s w Null none = refl
  by s w (Pointer b) none = refl
  by s w (Token c n) none = refl
  by s w (ReturnAddress p) none = refl

-- ---- objects keep their fields

pub same_longer : (before after : Things) → after.names ≡ before.names → IsLonger before after
same_longer before after same = ([], same ∙ sym (append-nil before.names))

pub whole_still : (k : Known) (before after : Things) → HasLibrary k → FillsStill k before after → StaysWhole k before after
whole_still k before after has still s others w is shares filled = still s is (bare_types k s has is) shares.heap.objects.whole filled

-- ---- the heap is as it was

pub same_grows : (things : Things) → Grows things things
same_grows things = record { names = take_all (length things.names) things.names (omega arith); contents = take_all (length things.contents) things.contents (omega arith) }

pub unchanged : (things : Things) (work : Work) → ChangesBy things things work
unchanged things (Results said v) = tt
unchanged things (Throws x) = same_grows things
unchanged things (Faults fault) = refl
unchanged things (Calls method object wait) = refl
unchanged things (Loads class) = refl
unchanged things (Exits status) = refl
unchanged things Misuses = refl

-- ---- settings of the world

setting_same : (k : Known) (s : Setting) → IsSettingOf k s → setting_of k s.field_names ≡ s
setting_same k s is =
    let with_heads : List ClassHead → Setting = λ heads. record { heads = heads; classes = (setting_of k s.field_names).classes; field_names = s.field_names } in
    let with_classes : Classes → Setting = λ cs. record { heads = s.heads; classes = cs; field_names = s.field_names } in
    ap with_heads (sym is.heads) ∙ ap with_classes (sym is.classes)

pub anywhere : (k : Known) (before : Things) (asked : Asked) (after : Things) (work : Work) → Does k before asked after work → DoesAnywhere k before asked after work
anywhere k before asked after work done s others w is shares =
    let same = setting_same k s is in
    subst (λ (x : Setting). Works k x after others w work (asked x before.names w)) same (done s.field_names others w is.distinct (record { shares = subst (λ (x : Setting). Shares x before others w) (sym same) shares }))

pub somewhere : (k : Known) (before : Things) (asked : Asked) (after : Things) (work : Work) → DoesAnywhere k before asked after work → Does k before asked after work
somewhere k before asked after work done names others w distinct holds = done (setting_of k names) others w (record { heads = refl; classes = refl; distinct = distinct }) holds.shares

pub anywhere_whole : (k : Known) (before : Things) (asked : Asked) (after : Things) (work : Work) → (AreWhole k before → Does k before asked after work) → DoesWhole k before asked after work
anywhere_whole k before asked after work done s others w is shares filled =
    let there = subst (AreFilled before) (sym (setting_same k s is)) filled in
    anywhere k before asked after work (done (record { each = there.each })) s others w is shares

-- ---- arguments

pub one_there : (given : List Value) → 1 ≤ length given → length given < 2 → given ≡ unwrap_or (slice_get given 0) Null ∷ []
one_there [] some few = absurd (omega arith)
one_there (v ∷ []) some few = refl
one_there (v ∷ u ∷ more) some few = absurd (omega arith)

pub two_there : (given : List Value) → 2 ≤ length given → length given < 3 → given ≡ unwrap_or (slice_get given 0) Null ∷ unwrap_or (slice_get given 1) Null ∷ []
two_there [] some few = absurd (omega arith)
two_there (v ∷ []) some few = absurd (omega arith)
two_there (v ∷ u ∷ []) some few = refl
two_there (v ∷ u ∷ x ∷ more) some few = absurd (omega arith)

pub three_misused : (k : Known) (things : Things) (at : Ref) (r : LibraryRule) (given : List Value) → 3 ≤ length given → Does k things (λ s ns w. calls.by_rule s.classes w r (name_of s.heads ns at) (map (held s.heads ns) given)) things Misuses
three_misused k things at r [] many = absurd (omega arith)
three_misused k things at r (v ∷ []) many = absurd (omega arith)
three_misused k things at r (v ∷ u ∷ []) many = absurd (omega arith)
three_misused k things at r (v ∷ u ∷ x ∷ more) many = misused k things (λ s ns w. calls.by_rule s.classes w r (name_of s.heads ns at) (map (held s.heads ns) (v ∷ u ∷ x ∷ more))) (λ s w. refl)
