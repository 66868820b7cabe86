-- A forward simulation with progress gives observational equivalence, forth and back.
-- Shown first: for each n both runs reach moments, after n steps at least, at which the same was observed, or the first
-- was broken before. Both clauses follow, since a run only grows, and stays put once it is over.
use Rattle.std.proofs.Common.{◌≡◌, ℕ, zero, suc, ◌+◌, ◌<◌, ◌≤◌, Bool, true, false, IsTrue, IsFalse, ◌⊎◌, inl, inr, List, [], Option, Some, None, refl, sym, ap, ◌∙◌, subst, arith}
use Rattle.event_machine.specs.Outcome.{Outcome}
use Rattle.event_machine.specs.Observation.{Observation, observed_from, observed, IsPrefix, Grows}
use Rattle.event_machine.specs.Equivalent.{IsBroken, Within, Covers, Excuses, Equivalent}
use Rattle.event_machine.specs.Follows.{Ends, Follows, Both, Waits, End, Breaks}
use Rattle.event_machine.specs.Laws.Prefix.{prefix_trans, prefixes_nested}
use Rattle.event_machine.specs.Laws.Growth.{grows}

-- an ending can't be both broken and not
pub not_both : {Ending : Type 0} (is_broken : Ending → Bool) (end : Ending) → IsTrue (is_broken end)
    → IsFalse (is_broken end) → ⊥
not_both is_broken end broken sound = let same : true ≡ false = sym broken ∙ sound in cc

module _ {Event Ending : Type 0} (is_broken : Ending → Bool) where
  -- of equal observations both are broken or neither
  pub broken_same : (o o' : Observation Event Ending) → o ≡ o' → IsBroken is_broken o' → IsBroken is_broken o
  broken_same o o' same b =
      record { end = b.end; reached = ap (λ u. u.ending) same ∙ b.reached; judged = b.judged }

  -- What the second says later excuses it now: either it was not yet over and has said no more than the first,
  -- or it has said all that the first said.
  pub excused_back : (first now later : Observation Event Ending) → Grows now later
      → Excuses is_broken first later → (o : Option Ending) → now.ending ≡ o
      → Covers first now ⊎ Excuses is_broken first now
  excused_back first now later g x None e =
      elim (prefixes_nested now.events first.events later.events g.events x.events) [
        | inl shorter ↦ inl (record { events = shorter; ending = λ end f. cc })
        | inr longer ↦ inr (record { broken = x.broken; events = longer })
      ]
  excused_back first now later g x (Some end) e =
      inr (record { broken = x.broken; events = let same = g.ending end e in rw same at x.events })

module _ {Event Ending S T : Type 0} (is_broken : Ending → Bool) (first : S → Outcome Event Ending S)
    (second : T → Outcome Event Ending T) where
  -- moments of both runs, each after n steps at least, at which the same was observed, or the first broke before
  record Agrees (n : ℕ) (s : S) (t : T) (said : List Event) : Type 0 where
    i : ℕ
    j : ℕ
    late_i : n ≤ i
    late_j : n ≤ j
    alike : (observed_from first i s said ≡ observed_from second j t said)
        ⊎ Excuses is_broken (observed_from first i s said) (observed_from second j t said)

  -- agreement of the states that both come to is agreement of the states that they come from
  carried : (n a b : ℕ) (s s' : S) (t t' : T) (said said' : List Event) (m : Agrees n s' t' said') → (i j : ℕ)
      → a ≤ i → b ≤ j → observed_from first i s said ≡ observed_from first m.i s' said'
      → observed_from second j t said ≡ observed_from second m.j t' said' → (k : ℕ) → k ≤ a → k ≤ b
      → Agrees k s t said
  carried n a b s s' t t' said said' m i j ai bj e f k ka kb = record {
    i = i;
    j = j;
    late_i = omega arith;
    late_j = omega arith;
    alike = elim m.alike [
      | inl same ↦ inl (e ∙ same ∙ sym f)
      | inr x ↦ inr (record { broken = broken_same is_broken _ _ e x.broken; events = rw (e, f) x.events })
    ];
  }

  -- both come to the same ending
  over : (n : ℕ) (s : S) (t : T) (said said' : List Event) (end : Ending) → Ends first s said end said'
      → Ends second t said end said' → Agrees n s t said
  over n s t said said' end p q =
      let g = grows first p.steps (p.steps + n) (omega arith) s said in
      let h = grows second q.steps (q.steps + n) (omega arith) t said in
      let e = g.ending end (ap (λ u. u.ending) p.observation) ∙ p.observation in
      let f = h.ending end (ap (λ u. u.ending) q.observation) ∙ q.observation in
      record {
        i = p.steps + n;
        j = q.steps + n;
        late_i = omega arith;
        late_j = omega arith;
        alike = inl (e ∙ sym f);
      }

  -- the first comes to a broken ending
  broke : (n m : ℕ) (s : S) (t : T) (said said' : List Event) (end : Ending) → IsTrue (is_broken end)
      → Ends first s said end said' → IsPrefix said' (observed_from second m t said).events
      → Agrees n s t said
  broke n m s t said said' end b p q =
      let g = grows first p.steps (p.steps + n) (omega arith) s said in
      let h = grows second m (m + n) (omega arith) t said in
      let e = g.ending end (ap (λ u. u.ending) p.observation) ∙ p.observation in
      record {
        i = p.steps + n;
        j = m + n;
        late_i = omega arith;
        late_j = omega arith;
        alike = inr (record {
          broken = record { end = end; reached = ap (λ u. u.ending) e; judged = b };
          events = rw e (prefix_trans said' _ _ q h.events);
        });
      }

  module _ (Related : S → T → Type 0) (rank : S → T → ℕ)
      (follows : (s : S) (t : T) (said : List Event) → Related s t
      → Follows is_broken first second Related rank s t said) where
    -- one step more of both, for the states whose rank is below a bound
    ranked : (n : ℕ) → ((s : S) (t : T) (said : List Event) → Related s t → Agrees n s t said) → (bound : ℕ)
        (s : S) (t : T) (said : List Event) → rank s t < bound → Related s t → Agrees (suc n) s t said
    ranked n less zero s t said lt r = absurd (omega arith)
    ranked n less (suc bound) s t said lt r = elim (follows s t said r) [
      | Both s' t' said' p q r' ↦
          let m = less s' t' said' r' in
          let a = p.by m.i in
          let b = q.by m.j in
          let la = m.late_i in let lb = m.late_j in let a1 = a.1 in let b1 = b.1 in
          carried n (suc n) (suc n) s s' t t' said said' m a.0 b.0 (omega arith) (omega arith) a.2 b.2
          (suc n) (omega arith) (omega arith)
      | Waits s' t' said' falls p q r' ↦
          let m = ranked n less bound s' t' said' (omega arith) r' in
          let a = p.by m.i in
          let b = q.by m.j in
          let la = m.late_i in let lb = m.late_j in let a1 = a.1 in let b1 = b.1 in
          carried (suc n) (suc n) (suc n) s s' t t' said said' m a.0 b.0 (omega arith) (omega arith) a.2 b.2
          (suc n) (omega arith) (omega arith)
      | End end said' p q ↦ over (suc n) s t said said' end p q
      | Breaks end b said' m p q ↦ broke (suc n) m s t said said' end b p q
    ]

    agree : (n : ℕ) (s : S) (t : T) (said : List Event) → Related s t → Agrees n s t said
    agree zero s t said r =
        record { i = 0; j = 0; late_i = omega arith; late_j = omega arith; alike = inl refl }
    agree (suc n) s t said r = ranked n (agree n) (suc (rank s t)) s t said (omega arith) r

    forth_of : (n : ℕ) (s : S) (t : T) → Agrees n s t []
        → (m : ℕ) × Within is_broken (observed first n s) (observed second m t)
    forth_of n s t m =
        let g = grows first n m.i m.late_i s [] in (
          m.j,
          elim m.alike [
            | inl same ↦ record {
              events = rw (← same) g.events;
              ending = λ end e sound. sym same ∙ g.ending end e;
            }
            | inr x ↦ record {
              events = prefix_trans _ _ _ g.events x.events;
              ending = λ end e sound.
                  let b : Some x.broken.end ≡ Some end = sym x.broken.reached ∙ ap (λ u. u.ending) (g.ending end e) ∙ e in
                  let c : x.broken.end ≡ end = cc in
                  absurd (not_both is_broken end (subst (λ d. IsTrue (is_broken d)) c x.broken.judged) sound);
            }
          ],
        )

    back_of : (n : ℕ) (s : S) (t : T) → Agrees n s t []
        → (m : ℕ)
        × (Covers (observed first m s) (observed second n t)
        ⊎ Excuses is_broken (observed first m s) (observed second n t))
    back_of n s t m =
        let g = grows second n m.j m.late_j t [] in (
          m.i,
          elim m.alike [
            | inl same ↦ inl (record { events = rw same g.events; ending = λ end e. same ∙ g.ending end e })
            | inr x ↦
                let now = observed second n t in
                excused_back is_broken (observed first m.i s) now (observed second m.j t) g x now.ending refl
          ],
        )

    -- Where from related states the two machines go on to related states, the rank falling while one of them stands
    -- still, they are observationally equivalent from related states.
    pub simulated : (s : S) (t : T) → Related s t → Equivalent is_broken first s second t
    simulated s t r = record {
      forth = λ n. forth_of n s t (agree n s t [] r);
      back = λ n. back_of n s t (agree n s t [] r);
    }

-- the same, where the relation is given as a type of its pairs
pub simulated_pairs : {Event Ending S T Pair : Type 0} (is_broken : Ending → Bool)
    (first : S → Outcome Event Ending S) (second : T → Outcome Event Ending T) (left : Pair → S)
    (right : Pair → T) (rank : S → T → ℕ)
    → ((p : Pair) (said : List Event)
    → Follows is_broken first second (λ s t. (q : Pair) × (left q ≡ s) × (right q ≡ t)) rank (left p) (right p) said)
    → (p : Pair) → Equivalent is_broken first (left p) second (right p)
simulated_pairs {Event} {Ending} {S} {T} {Pair} is_broken first second left right rank follows p =
    let Related : S → T → Type 0 = λ s t. (q : Pair) × (left q ≡ s) × (right q ≡ t) in
    let related_follows : (s : S) (t : T) (said : List Event) → Related s t
    → Follows is_broken first second Related rank s t said = λ s t said r. rw (← r.1, ← r.2) (follows r.0 said) in
    simulated is_broken first second Related rank related_follows (left p) (right p) (p, refl, refl)
