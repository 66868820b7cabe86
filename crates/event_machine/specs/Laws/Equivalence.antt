-- Laws of observational equivalence.
use Rattle.std.proofs.Common.{◌≡◌, ℕ, zero, suc, Bool, true, false, ◌⊎◌, inl, inr, List, [], ◌∷◌, ◌++◌, Some, refl, sym, ap, ◌∙◌}
use Rattle.event_machine.specs.Outcome.{Outcome, Went, Said, Ended, outcome_map}
use Rattle.event_machine.specs.Observation.{Observation, observed_after, observed_from, observed}
use Rattle.event_machine.specs.Equivalent.{IsBroken, Within, Covers, Excuses, Equivalent}
use Rattle.event_machine.specs.Follows.{no_waits}
use Rattle.event_machine.specs.Alike.{Alike}
use Rattle.event_machine.specs.Laws.Prefix.{prefix_refl, prefix_trans}
use Rattle.event_machine.specs.Laws.Simulation.{simulated, broken_same, excused_back}
use Rattle.event_machine.specs.Laws.Stretches.{locked}

-- a step and its image go alike
pub alike-outcome_map : {Event Ending S T : Type 0} (is_broken : Ending → Bool) (image : S → T)
    (o : Outcome Event Ending S) → Alike is_broken (λ s t. t ≡ image s) o (outcome_map image o)
alike-outcome_map is_broken image (Went s) = refl
alike-outcome_map is_broken image (Said event s) = (refl, refl)
alike-outcome_map is_broken image (Ended end) = inr refl

-- the image under the function that changes nothing
pub outcome_map-same : {Event Ending S : Type 0} (o : Outcome Event Ending S) → o ≡ outcome_map (λ s. s) o
outcome_map-same (Went s) = refl
outcome_map-same (Said event s) = refl
outcome_map-same (Ended end) = refl

-- a machine whose steps are those of the first along a function of its states is equivalent to it
pub equivalent_along_image : {Event Ending S T : Type 0} (is_broken : Ending → Bool)
    (first : S → Outcome Event Ending S) (second : T → Outcome Event Ending T) (image : S → T)
    → ((s : S) → second (image s) ≡ outcome_map image (first s)) → (s : S)
    → Equivalent is_broken first s second (image s)
equivalent_along_image {Event} {Ending} {S} {T} is_broken first second image h s =
    let Related : S → T → Type 0 = λ s t. t ≡ image s in
    let alike : (s : S) (t : T) → Related s t → Alike is_broken Related (first s) (second t) =
    λ s t r. rw (r, h s) (alike-outcome_map is_broken image (first s)) in
    simulated is_broken first second Related no_waits
    (λ s t said r. locked is_broken first second Related no_waits s t said (alike s t r))
    s (image s) refl

-- of such a machine the same is observed within each number of steps
pub observed-image : {Event Ending S T : Type 0} (first : S → Outcome Event Ending S)
    (second : T → Outcome Event Ending T) (image : S → T)
    → ((s : S) → second (image s) ≡ outcome_map image (first s)) → (n : ℕ) (s : S) (said : List Event)
    → observed_from second n (image s) said ≡ observed_from first n s said
observed-image first second image h zero s said = refl
observed-image {Event} {Ending} {S} {T} first second image h (suc n) s said =
    ap (λ o. observed_after o (observed_from second n) said) (h s) ∙ after (observed-image first second image h n) (first s)
  where
    after : ((s : S) (said : List Event) → observed_from second n (image s) said ≡ observed_from first n s said)
        → (o : Outcome Event Ending S)
        → observed_after (outcome_map image o) (observed_from second n) said
        ≡ observed_after o (observed_from first n) said
    after less (Went s') = less s' said
    after less (Said event s') = less s' (said ++ event ∷ [])
    after less (Ended end) = refl

-- machines of which the same is observed within each number of steps are equivalent
pub equivalent_observed : {Event Ending S T : Type 0} (is_broken : Ending → Bool)
    (first : S → Outcome Event Ending S) (second : T → Outcome Event Ending T) (s : S) (t : T)
    → ((n : ℕ) → observed first n s ≡ observed second n t) → Equivalent is_broken first s second t
equivalent_observed is_broken first second s t same = record {
  forth = λ n. (n, record { events = rw (same n) (prefix_refl _); ending = λ end e sound. sym (same n) });
  back = λ n. (n, inl (record { events = rw (same n) (prefix_refl _); ending = λ end e. same n }));
}

-- machines with equal steps are equivalent
pub equivalent_pointwise : {Event Ending S : Type 0} (is_broken : Ending → Bool)
    (first second : S → Outcome Event Ending S) → ((s : S) → first s ≡ second s) → (s : S)
    → Equivalent is_broken first s second s
equivalent_pointwise {Event} {Ending} {S} is_broken first second h s =
    equivalent_along_image is_broken first second (λ s. s) (λ s. sym (h s) ∙ outcome_map-same (first s)) s

-- each machine is equivalent to itself
pub equivalent_refl : {Event Ending S : Type 0} (is_broken : Ending → Bool)
    (step : S → Outcome Event Ending S) (s : S) → Equivalent is_broken step s step s
equivalent_refl is_broken step s = equivalent_pointwise is_broken step step (λ s. refl) s

module _ {Event Ending : Type 0} (is_broken : Ending → Bool) where
  within_trans : (x y z : Observation Event Ending) → Within is_broken x y → Within is_broken y z
      → Within is_broken x z
  within_trans x y z p q = record {
    events = prefix_trans _ _ _ p.events q.events;
    ending = λ end e sound. let same = p.ending end e sound in q.ending end (ap (λ v. v.ending) same ∙ e) sound ∙ same;
  }

  back_trans : (x y z : Observation Event Ending) → (Covers x y ⊎ Excuses is_broken x y)
      → (Covers y z ⊎ Excuses is_broken y z) → Covers x z ⊎ Excuses is_broken x z
  back_trans x y z (inl p) (inl q) = inl (record {
    events = prefix_trans _ _ _ q.events p.events;
    ending = λ end e. let same = q.ending end e in p.ending end (ap (λ v. v.ending) same ∙ e) ∙ same;
  })
  back_trans x y z (inl p) (inr q) =
      let same = p.ending q.broken.end q.broken.reached in
      inr (record { broken = broken_same is_broken x y same q.broken; events = rw same q.events })
  back_trans x y z (inr p) (inl q) =
      excused_back is_broken x z y (record { events = q.events; ending = q.ending }) p z.ending refl
  back_trans x y z (inr p) (inr q) =
      inr (record { broken = p.broken; events = prefix_trans _ _ _ p.events q.events })

-- equivalences compose, so a chain of machines is shown link by link
pub equivalent_trans : {Event Ending S T U : Type 0} (is_broken : Ending → Bool)
    (first : S → Outcome Event Ending S) (second : T → Outcome Event Ending T)
    (third : U → Outcome Event Ending U) (s : S) (t : T) (u : U) → Equivalent is_broken first s second t
    → Equivalent is_broken second t third u → Equivalent is_broken first s third u
equivalent_trans is_broken first second third s t u p q = record {
  forth = λ n. let m = p.forth n in let k = q.forth m.0 in (k.0, within_trans is_broken _ _ _ m.1 k.1);
  back = λ n. let m = q.back n in let k = p.back m.0 in (k.0, back_trans is_broken _ _ _ k.1 m.1);
}

-- the second is broken only where the first is
pub broken_back : {Event Ending S T : Type 0} (is_broken : Ending → Bool) (first : S → Outcome Event Ending S)
    (second : T → Outcome Event Ending T) (s : S) (t : T) → Equivalent is_broken first s second t → (n : ℕ)
    → IsBroken is_broken (observed second n t) → (m : ℕ) × IsBroken is_broken (observed first m s)
broken_back is_broken first second s t p n b = let m = p.back n in (
  m.0,
  elim m.1 [
    | inl c ↦ broken_same is_broken _ _ (c.ending b.end b.reached) b
    | inr x ↦ x.broken
  ],
)

-- where the first is never broken, the equivalence holds the other way round too
pub equivalent_sym : {Event Ending S T : Type 0} (is_broken : Ending → Bool)
    (first : S → Outcome Event Ending S) (second : T → Outcome Event Ending T) (s : S) (t : T)
    → Equivalent is_broken first s second t → ((n : ℕ) → IsBroken is_broken (observed first n s) → ⊥)
    → Equivalent is_broken second t first s
equivalent_sym {Event} {Ending} {S} {T} is_broken first second s t p sound = record {
  forth = λ n. let m = p.back n in (
    m.0,
    elim m.1 [
      | inl c ↦ record { events = c.events; ending = λ end e whole. c.ending end e }
      | inr x ↦ absurd (sound m.0 x.broken)
    ],
  );
  back = λ n. let m = p.forth n in (
    m.0,
    inl (record {
      events = m.1.events;
      ending = λ end e. whole n end e m.1 (is_broken end) refl;
    }),
  );
}
  where
    whole : (n : ℕ) (end : Ending) {v : Observation Event Ending} → (observed first n s).ending ≡ Some end
        → Within is_broken (observed first n s) v → (b : Bool) → is_broken end ≡ b → v ≡ observed first n s
    whole n end e w true judged = absurd (sound n (record { end = end; reached = e; judged = judged }))
    whole n end e w false judged = w.ending end e judged
