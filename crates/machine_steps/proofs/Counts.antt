-- Counts of monitors that are left.
use Rattle.std.specs.Prelude.{◌≡◌, ℕ, zero, suc, ◌-◌, ◌==◌, Bool, true, false, if◌then◌else◌, List, [], ◌∷◌, Option, Some, None, refl}
use Rattle.std.specs.Str.{bytes_eq}
use Rattle.std.proofs.Common.{sym, ◌∙◌, ap, subst}
use Rattle.std.proofs.lemmas.Bool.{and_parts, false≢true, eqb-true}
use Rattle.std.specs.Cmp.Lexicographic.{bytes_decides}
use Rattle.class_machine.specs.Values.{Name, Made, Literal, ClassObject, same_name}
use Rattle.class_machine.specs.World.{World, count_in, with_count, leave_monitor}
use Rattle.class_machine.specs.Machine.{leaving}
use Rattle.class_machine.specs.Effect.{LeaveMonitor}
use Rattle.class_machine.specs.Answers as answers
use Rattle.machine_values.specs.Things.{Things}
use Rattle.machine_requests.specs.declared.reply.Reply.{Reply}
use Rattle.machine_requests.specs.declared.reply.Reply.TheVariants.{Gives, Done, Faults, Refuses}
use Rattle.machine_requests.specs.Shares.{Setting, Others, Shares}
use Rattle.machine_requests.specs.Replies.{Replies}

same_is : (a b : Name) → same_name a b ≡ true → a ≡ b
same_is (Made c k) (Made d j) e =
    let both = and_parts (k == j) (bytes_eq c d) e in
    ap (λ n. Made c n) (eqb-true k j both.0) ∙ ap (λ n. Made n j) ((bytes_decides c d).0 both.1)
same_is (Literal a) (Literal b) e = ap Literal ((bytes_decides a b).0 e)
same_is (ClassObject a) (ClassObject b) e = ap ClassObject ((bytes_decides a b).0 e)
same_is (Made c k) (Literal b) e = absurd (false≢true e)
same_is (Made c k) (ClassObject b) e = absurd (false≢true e)
same_is (Literal a) (Made d k) e = absurd (false≢true e)
same_is (Literal a) (ClassObject b) e = absurd (false≢true e)
same_is (ClassObject a) (Made d k) e = absurd (false≢true e)
same_is (ClassObject a) (Literal b) e = absurd (false≢true e)

abbrev pick : Bool → ℕ → ℕ → ℕ
pick hit m n = if hit then m else n

none_either : (b : Bool) → pick b 0 0 ≡ 0
none_either true = refl
none_either false = refl

-- a monitor that wasn't entered has the count 0
count_kept : (ms : List (Name × ℕ)) (a : Name) → count_in ms a ≡ 0 → (b : Name) → count_in (with_count ms a 0) b ≡ count_in ms b
count_kept [] a none b = none_either (same_name a b)
count_kept (m ∷ ms) a none b = by (same_name m.0 a) refl (λ h. count_kept ms a h b) where
  by : (hit : Bool) → same_name m.0 a ≡ hit → (count_in ms a ≡ 0 → count_in (with_count ms a 0) b ≡ count_in ms b)
      → count_in (if hit then (a, 0) ∷ ms else m ∷ with_count ms a 0) b ≡ pick (same_name m.0 b) m.1 (count_in ms b)
  by true e rest =
      let first : m.1 ≡ 0 = sym (ap (λ hit. pick hit m.1 (count_in ms a)) e) ∙ none in
      ap (λ n. pick (same_name n b) 0 (count_in ms b)) (sym (same_is m.0 a e)) ∙ ap (λ n. pick (same_name m.0 b) n (count_in ms b)) (sym first)
  by false e rest = ap (pick (same_name m.0 b) m.1) (rest (sym (ap (λ hit. pick hit m.1 (count_in ms a)) e) ∙ none))

none_left : (s : Setting) (things : Things) (others : Others) (w : World) (a : Name) → count_in w.monitors a ≡ 0 → Shares s things others w → Shares s things others (leave_monitor w a)
none_left s things others w a none shares =
    let P : ℕ → Type 0 = λ n. Shares s things others (record w { monitors = with_count w.monitors a n }) in
    subst P (sym (ap (λ n. n - 1) none)) (record {
      heap = shares.heap;
      fit = shares.fit;
      statics = shares.statics;
      statics_within = shares.statics_within;
      begun = shares.begun;
      monitors = λ n below. count_kept w.monitors a none _ ∙ shares.monitors n below;
      monitors_within = shares.monitors_within;
      unentered = λ b nowhere. count_kept w.monitors a none b ∙ shares.unentered b nowhere;
    })

pub left_by_reply : (s : Setting) (things : Things) (others : Others) (w : World) (a : Option Name) (reply : Reply)
    → Replies s things others w reply (answers.answer s.classes w (LeaveMonitor a)) → Shares s things others (leaving a w)
left_by_reply s things others w None (Faults f) h = h.1
left_by_reply s things others w None (Gives v) h = absurd h
left_by_reply s things others w None Done h = absurd h
left_by_reply s things others w None Refuses h = absurd h
left_by_reply s things others w (Some a) reply h = by (count_in w.monitors a) refl reply h where
  by : (n : ℕ) → count_in w.monitors a ≡ n → (r : Reply) → Replies s things others w r (answers.left w a n) → Shares s things others (leave_monitor w a)
  by zero none (Faults f) h = none_left s things others w a none h.1
  by zero none (Gives v) h = absurd h
  by zero none Done h = absurd h
  by zero none Refuses h = absurd h
  by (suc n) some Done h = h
  by (suc n) some (Faults f) h = absurd h
  by (suc n) some (Gives v) h = absurd h
  by (suc n) some Refuses h = absurd h
