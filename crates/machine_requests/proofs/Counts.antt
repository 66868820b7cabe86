-- Monitors whose counts change.
use Rattle.std.specs.Prelude.{◌≡◌, ◌≢◌, ℕ, Result, Ok, Err, OnErr, max, slice_set, zero, suc, ◌+◌, ◌-◌, ◌<◌, ◌≤◌, ◌==◌, Bool, true, false, ◌&&◌, if◌then◌else◌, List, [], ◌∷◌, ◌++◌, length, slice_get, slice_index, Some, None, refl}
use Rattle.std.specs.Str.{bytes_eq}
use Rattle.std.proofs.Common.{sym, ◌∙◌, ap, subst, inl, inr, arith, eq-eqb}
use Rattle.std.proofs.lemmas.Bool.{and_parts, cases_Bool, false≢true, eqb-true, ltb-true}
use Rattle.std.specs.Cmp.Lexicographic.{bytes_decides}
use Rattle.class_machine.specs.Values.{Name, Made, Literal, ClassObject, same_name}
use Rattle.class_machine.specs.World.{World, count_in, with_count}
use Rattle.machine_values.specs.declared.values.Ref.{Ref}
use Rattle.machine_values.specs.States.{is_known_object}
use Rattle.class_machine.specs.declared.kinds.Fault.{Fault}
use Rattle.class_machine.specs.Effect.{EnterMonitor, LeaveMonitor}
use Rattle.class_machine.specs.Answers as answers
use Rattle.machine_values.specs.Things.{Things}
use Rattle.machine_values.specs.Standing.{name_in}
use Rattle.machine_requests.specs.declared.reply.Reply.TheVariants.{Done, Faults}
use Rattle.machine_requests.specs.Telling.{AreDistinct}
use Rattle.machine_requests.specs.TellingLaws.{places_tell}
use Rattle.machine_requests.specs.Shares.{Setting, Others, Shares}
use Rattle.machine_requests.specs.Replies.{Replies, IsAnswer, object}
use Rattle.machine_requests.specs.Monitors.{HasSameCounts, IsCounted, with_monitors, StandsStill}

made_same : (c d : List ℕ) (j k : ℕ) → c ≡ d → j ≡ k → Made c j ≡ Made d k
made_same c d j k p q = ap (λ x. Made x j) p ∙ ap (Made d) q

-- the same name is an equal one
pub same_is : (a b : Name) → same_name a b ≡ true → a ≡ b
same_is (Made c j) (Made d k) e =
    let both = and_parts (j == k) (bytes_eq c d) e in
    made_same c d j k ((bytes_decides c d).0 both.1) (eqb-true j k both.0)
same_is (Literal a) (Literal b) e = ap Literal ((bytes_decides a b).0 e)
same_is (ClassObject a) (ClassObject b) e = ap ClassObject ((bytes_decides a b).0 e)
same_is (Made c j) (Literal b) e = absurd (false≢true e)
same_is (Made c j) (ClassObject b) e = absurd (false≢true e)
same_is (Literal a) (Made d k) e = absurd (false≢true e)
same_is (Literal a) (ClassObject b) e = absurd (false≢true e)
same_is (ClassObject a) (Made d k) e = absurd (false≢true e)
same_is (ClassObject a) (Literal b) e = absurd (false≢true e)

pub same_itself : (a : Name) → same_name a a ≡ true
same_itself (Made c k) = ap (λ b. b && bytes_eq c c) (eq-eqb k k refl) ∙ (bytes_decides c c).1 refl
same_itself (Literal a) = (bytes_decides a a).1 refl
same_itself (ClassObject a) = (bytes_decides a a).1 refl

pub apart_back : (a b : Name) → same_name a b ≡ false → same_name b a ≡ false
apart_back a b h = elim (cases_Bool (same_name b a)) [
  | inl same ↦ absurd (false≢true (sym h ∙ subst (λ x. same_name a x ≡ true) (sym (same_is b a same)) (same_itself a)))
  | inr differ ↦ differ
]

abbrev pick : Bool → ℕ → ℕ → ℕ
pick hit m n = if hit then m else n

-- ---- one count

-- the counts with that one, by the first monitor and the others
pub count_with : (ms : List (Name × ℕ)) (a : Name) (n : ℕ) (b : Name) → count_in (with_count ms a n) b ≡ pick (same_name a b) n (count_in ms b)
count_with [] a n b = refl
count_with (m ∷ ms) a n b = by (same_name m.0 a) refl (count_with ms a n b) where
  by : (hit : Bool) → same_name m.0 a ≡ hit → count_in (with_count ms a n) b ≡ pick (same_name a b) n (count_in ms b)
      → count_in (if hit then (a, n) ∷ ms else m ∷ with_count ms a n) b ≡ pick (same_name a b) n (pick (same_name m.0 b) m.1 (count_in ms b))
  by true e rest =
      let P : Name → Type 0 = λ x. pick (same_name x b) n (count_in ms b) ≡ pick (same_name x b) n (pick (same_name m.0 b) m.1 (count_in ms b)) in
      subst P (same_is m.0 a e) (twice (same_name m.0 b) n m.1 (count_in ms b)) where
        twice : (hit : Bool) (x y z : ℕ) → pick hit x z ≡ pick hit x (pick hit y z)
        twice true x y z = refl
        twice false x y z = refl
  by false e rest = ap (pick (same_name m.0 b) m.1) rest ∙ other_way (same_name m.0 b) (same_name a b) n m.1 (count_in ms b) not_both where
    not_both : same_name m.0 b ≡ true → same_name a b ≡ true → ⊥
    not_both p q = false≢true (sym e ∙ ap (same_name m.0) (same_is a b q) ∙ p)

    other_way : (p q : Bool) (x y z : ℕ) → (p ≡ true → q ≡ true → ⊥) → pick p y (pick q x z) ≡ pick q x (pick p y z)
    other_way true true x y z never = absurd (never refl refl)
    other_way true false x y z never = refl
    other_way false true x y z never = refl
    other_way false false x y z never = refl

abbrev place_name : Setting → Things → ℕ → Name
place_name s things at = name_in s.heads (slice_get things.names at)

-- the one monitor has another count, in both
pub counted_shares : (s : Setting) (things : Things) (others : Others) (w : World) (at count : ℕ) (new : List ℕ) → AreDistinct s.heads → Shares s things others w → at < length things.names
    → length new ≤ length things.names → IsCounted others.monitors at count new
    → Shares s things (with_monitors others new) (record w { monitors = with_count w.monitors (place_name s things at) count })
counted_shares s things others w at count new distinct shares known within counted = record {
  heap = shares.heap;
  fit = shares.fit;
  statics = shares.statics;
  statics_within = shares.statics_within;
  begun = shares.begun;
  monitors = λ n below. count_with w.monitors (place_name s things at) count (place_name s things n)
      ∙ ap (λ hit. pick hit count (count_in w.monitors (place_name s things n))) (places_tell s.heads things.names distinct shares.heap.numbered shares.fit at n known below)
      ∙ here n below;
  monitors_within = within;
  unentered = λ a nowhere. count_with w.monitors (place_name s things at) count a ∙ ap (λ hit. pick hit count (count_in w.monitors a)) (nowhere at known) ∙ shares.unentered a nowhere;
} where
  here : (n : ℕ) → n < length things.names → pick (at == n) count (count_in w.monitors (place_name s things n)) ≡ slice_index new n
  here n below = elim (cases_Bool (at == n)) [
    | inl same ↦ ap (λ hit. pick hit count (count_in w.monitors (place_name s things n))) same ∙ sym counted.counted ∙ ap (slice_index new) (eqb-true at n same)
    | inr differ ↦ ap (λ hit. pick hit count (count_in w.monitors (place_name s things n))) differ ∙ shares.monitors n below
        ∙ sym (counted.others n (λ e. false≢true (sym differ ∙ eq-eqb at n (sym e))))
  ]

-- counts that are the same stand for the same
pub same_stand : (things : Things) (others : Others) (new : List ℕ) → HasSameCounts others.monitors new → length new ≤ length things.names → StandsStill things others things (with_monitors others new)
same_stand things others new same within s w shares = record {
  heap = shares.heap;
  fit = shares.fit;
  statics = shares.statics;
  statics_within = shares.statics_within;
  begun = shares.begun;
  monitors = λ n below. shares.monitors n below ∙ sym (same n);
  monitors_within = within;
  unentered = shares.unentered;
}

-- ---- what is answered

pub enter_null : (things : Things) (others : Others) → IsAnswer things others (λ s names. EnterMonitor (object s names None)) things others (Faults Fault.NullPointer)
enter_null things others s w distinct shares = (refl, shares)

pub leave_null : (things : Things) (others : Others) → IsAnswer things others (λ s names. LeaveMonitor (object s names None)) things others (Faults Fault.NullPointer)
leave_null things others s w distinct shares = (refl, shares)

pub enter_done : (things : Things) (others : Others) (at : Ref) (new : List ℕ) → is_known_object (length things.names) (Some at) ≡ true → length new ≤ length things.names
    → IsCounted others.monitors at.0 (suc (slice_index others.monitors at.0)) new → IsAnswer things others (λ s names. EnterMonitor (object s names (Some at))) things (with_monitors others new) Done
enter_done things others at new known within counted s w distinct shares =
    let below = ltb-true at.0 (length things.names) known in
    counted_shares s things others w at.0 (suc (count_in w.monitors (place_name s things at.0))) new distinct shares below within
    (record { counted = counted.counted ∙ ap suc (sym (shares.monitors at.0 below)); others = counted.others })

pub leave_fault : (things : Things) (others : Others) (at : Ref) → is_known_object (length things.names) (Some at) ≡ true → slice_index others.monitors at.0 ≡ 0
    → IsAnswer things others (λ s names. LeaveMonitor (object s names (Some at))) things others (Faults Fault.IllegalMonitorState)
leave_fault things others at known none s w distinct shares =
    let below = ltb-true at.0 (length things.names) known in
    let P : ℕ → Type 0 = λ n. Replies s things others w (Faults Fault.IllegalMonitorState) (answers.left w (place_name s things at.0) n) in
    subst P (sym (shares.monitors at.0 below ∙ none)) (refl, shares)

pub leave_done : (things : Things) (others : Others) (at : Ref) (count : ℕ) (new : List ℕ) → is_known_object (length things.names) (Some at) ≡ true → length new ≤ length things.names
    → slice_index others.monitors at.0 ≡ suc count → IsCounted others.monitors at.0 count new → IsAnswer things others (λ s names. LeaveMonitor (object s names (Some at))) things (with_monitors others new) Done
leave_done things others at count new known within some counted s w distinct shares =
    let below = ltb-true at.0 (length things.names) known in
    let there : count_in w.monitors (place_name s things at.0) ≡ suc count = shares.monitors at.0 below ∙ some in
    let P : ℕ → Type 0 = λ n. Replies s things (with_monitors others new) w Done (answers.left w (place_name s things at.0) n) in
    subst P (sym there) (counted_shares s things others w at.0 (count_in w.monitors (place_name s things at.0) - 1) new distinct shares below within
    (record { counted = counted.counted ∙ omega (arith, there); others = counted.others }))

-- one more count of 0 says the same
pub zero_pushed : (ms : List ℕ) (n : ℕ) → slice_index (ms ++ 0 ∷ []) n ≡ slice_index ms n
zero_pushed [] zero = refl
zero_pushed [] (suc n) = refl
zero_pushed (m ∷ ms) zero = refl
zero_pushed (m ∷ ms) (suc n) = zero_pushed ms n

-- ---- a count is set

set_same : (ms : List ℕ) (at n : ℕ) → at < length ms → slice_index (slice_set ms at n) at ≡ n
set_same [] at n h = absurd (omega arith)
set_same (m ∷ ms) zero n h = refl
set_same (m ∷ ms) (suc at) n h = set_same ms at n (omega arith)

set_other : (ms : List ℕ) (at n i : ℕ) → i ≢ at → slice_index (slice_set ms at n) i ≡ slice_index ms i
set_other [] at n i h = refl
set_other (m ∷ ms) zero n zero h = absurd (h refl)
set_other (m ∷ ms) zero n (suc i) h = refl
set_other (m ∷ ms) (suc at) n zero h = refl
set_other (m ∷ ms) (suc at) n (suc i) h = set_other ms at n i (λ e. h (ap suc e))

set_length : (ms : List ℕ) (at n : ℕ) → length (slice_set ms at n) ≡ length ms
set_length [] at n = refl
set_length (m ∷ ms) zero n = refl
set_length (m ∷ ms) (suc at) n = ap suc (set_length ms at n)

some_within : (ms : List ℕ) (at n : ℕ) → slice_index ms at ≡ suc n → at < length ms
some_within [] at n h = absurd (omega arith)
some_within (m ∷ ms) zero n h = omega arith
some_within (m ∷ ms) (suc at) n h = let below = some_within ms at n h in omega arith

pub left_once : (things : Things) (others : Others) (at : Ref) (count : ℕ) → is_known_object (length things.names) (Some at) ≡ true → slice_index others.monitors at.0 ≡ suc count
    → IsAnswer things others (λ s names. LeaveMonitor (object s names (Some at))) things (with_monitors others (slice_set others.monitors at.0 count)) Done
left_once things others at count known some s w distinct shares =
    let within = shares.monitors_within in let len = set_length others.monitors at.0 count in
    leave_done things others at count (slice_set others.monitors at.0 count) known (omega arith) some
    (record { counted = set_same others.monitors at.0 count (some_within others.monitors at.0 count some); others = λ place apart. set_other others.monitors at.0 count place apart }) s w distinct shares

pub entered_once : (things : Things) (others : Others) (at : Ref) (mid : List ℕ) → is_known_object (length things.names) (Some at) ≡ true → HasSameCounts others.monitors mid → at.0 < length mid
    → length mid ≤ max (length others.monitors) (at.0 + 1)
    → IsAnswer things others (λ s names. EnterMonitor (object s names (Some at))) things (with_monitors others (slice_set mid at.0 (slice_index others.monitors at.0 + 1))) Done
entered_once things others at mid known same reached most s w distinct shares =
    let within = shares.monitors_within in let below = ltb-true at.0 (length things.names) known in
    let len = set_length mid at.0 (slice_index others.monitors at.0 + 1) in
    enter_done things others at (slice_set mid at.0 (slice_index others.monitors at.0 + 1)) known (omega arith)
    (record { counted = set_same mid at.0 (slice_index others.monitors at.0 + 1) reached ∙ omega arith; others = λ place apart. set_other mid at.0 (slice_index others.monitors at.0 + 1) place apart ∙ same place }) s w distinct shares

pub still_reached : (things : Things) (others : Others) (at : Ref) (mid : List ℕ) → is_known_object (length things.names) (Some at) ≡ true → HasSameCounts others.monitors mid
    → length mid ≤ max (length others.monitors) (at.0 + 1) → StandsStill things others things (with_monitors others mid)
still_reached things others at mid known same most s w shares =
    let within = shares.monitors_within in let below = ltb-true at.0 (length things.names) known in
    same_stand things others mid same (omega arith) s w shares

-- a fact that holds anyway
pub on_err : {X E : Type 0} (r : Result X E) (P : Type 0) → P → OnErr r P
on_err (Ok x) P p = tt
on_err (Err e) P p = p
