-- Machines whose events are looked at through a function: what is observed of them, and their equivalence.
use Rattle.std.proofs.Common.{◌≡◌, ℕ, zero, suc, Bool, ◌⊎◌, inl, inr, List, [], ◌∷◌, ◌++◌, map, refl, sym, ap, ◌∙◌}
use Rattle.std.proofs.lemmas.List.{map-append}
use Rattle.event_machine.specs.Outcome.{Outcome, Went, Said, Ended, outcome_relabel}
use Rattle.event_machine.specs.Observation.{Observation, observed_after, observed_from, IsPrefix, observation_relabel}
use Rattle.event_machine.specs.Equivalent.{Within, Covers, Excuses, Equivalent}

module _ {Event Label Ending State : Type 0} (label : Event → Label)
    (step : State → Outcome Event Ending State) where
  -- the machine whose events are the labels
  abbrev labelled : State → Outcome Label Ending State
  labelled s = outcome_relabel label (step s)

  -- what is observed of it is what was observed, with a label in place of each event
  pub observed-relabel : (n : ℕ) (s : State) (said : List Event)
      → observed_from labelled n s (map label said) ≡ observation_relabel label (observed_from step n s said)
  observed-relabel zero s said = refl
  observed-relabel (suc n) s said = after (observed-relabel n) (step s)
    where
      after : ((s : State) (said : List Event)
          → observed_from labelled n s (map label said) ≡ observation_relabel label (observed_from step n s said))
          → (o : Outcome Event Ending State)
          → observed_after (outcome_relabel label o) (observed_from labelled n) (map label said)
          ≡ observation_relabel label (observed_after o (observed_from step n) said)
      after less (Went s') = less s' said
      after less (Said event s') =
          ap (observed_from labelled n s') (sym (map-append label said (event ∷ [])))
          ∙ less s' (said ++ event ∷ [])
      after less (Ended end) = refl

module _ {Event Label : Type 0} (label : Event → Label) where
  prefix-map : (xs ys : List Event) → IsPrefix xs ys → IsPrefix (map label xs) (map label ys)
  prefix-map xs ys p =
      record { rest = map label p.rest; whole = sym (map-append label xs p.rest) ∙ ap (map label) p.whole }

module _ {Event Label Ending : Type 0} (is_broken : Ending → Bool) (label : Event → Label) where
  within-relabel : (x y : Observation Event Ending) → Within is_broken x y
      → Within is_broken (observation_relabel label x) (observation_relabel label y)
  within-relabel x y w = record {
    events = prefix-map label _ _ w.events;
    ending = λ end e sound. ap (observation_relabel label) (w.ending end e sound);
  }

  back-relabel : (x y : Observation Event Ending) → Covers x y ⊎ Excuses is_broken x y
      → Covers (observation_relabel label x) (observation_relabel label y)
      ⊎ Excuses is_broken (observation_relabel label x) (observation_relabel label y)
  back-relabel x y (inl c) = inl (record {
    events = prefix-map label _ _ c.events;
    ending = λ end e. ap (observation_relabel label) (c.ending end e);
  })
  back-relabel x y (inr e) = inr (record {
    broken = record { end = e.broken.end; reached = e.broken.reached; judged = e.broken.judged };
    events = prefix-map label _ _ e.events;
  })

-- equivalent machines are equivalent under any labels of their events
pub equivalent_relabel : {Event Label Ending S T : Type 0} (is_broken : Ending → Bool) (label : Event → Label)
    (first : S → Outcome Event Ending S) (second : T → Outcome Event Ending T) (s : S) (t : T)
    → Equivalent is_broken first s second t
    → Equivalent is_broken (λ s. outcome_relabel label (first s)) s (λ t. outcome_relabel label (second t)) t
equivalent_relabel is_broken label first second s t p = record {
  forth = λ n.
      let m = p.forth n in
      let e = observed-relabel label first n s [] in
      let f = observed-relabel label second m.0 t [] in
      (m.0, rw (e, f) (within-relabel is_broken label _ _ m.1));
  back = λ n.
      let m = p.back n in
      let e = observed-relabel label first m.0 s [] in
      let f = observed-relabel label second n t [] in
      (m.0, rw (e, f) (back-relabel is_broken label _ _ m.1));
}
