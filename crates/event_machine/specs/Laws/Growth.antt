-- More steps say more, and change nothing of a run that is over.
use Rattle.std.proofs.Common.{ℕ, zero, suc, ◌≤◌, List, [], ◌∷◌, ◌++◌, refl, arith}
use Rattle.event_machine.specs.Outcome.{Outcome, Went, Said, Ended}
use Rattle.event_machine.specs.Observation.{Observation, observed_after, observed_from, IsPrefix, Grows}
use Rattle.event_machine.specs.Laws.Prefix.{prefix_refl, prefix_trans, prefix-append}

module _ {Event Ending : Type 0} where
  pub grows_refl : (o : Observation Event Ending) → Grows o o
  grows_refl o = record { events = prefix_refl o.events; ending = λ end e. refl }

module _ {Event Ending State : Type 0} (step : State → Outcome Event Ending State) where
  keeps_after : (o : Outcome Event Ending State) (onward : State → List Event → Observation Event Ending)
      (said : List Event) → ((s : State) (said : List Event) → IsPrefix said (onward s said).events)
      → IsPrefix said (observed_after o onward said).events
  keeps_after (Went s) onward said h = h s said
  keeps_after (Said event s) onward said h =
      prefix_trans said (said ++ event ∷ []) _ (prefix-append said (event ∷ [])) (h s (said ++ event ∷ []))
  keeps_after (Ended end) onward said h = prefix_refl said

  -- what was said before stays said
  pub keeps : (n : ℕ) (s : State) (said : List Event) → IsPrefix said (observed_from step n s said).events
  keeps zero s said = prefix_refl said
  keeps (suc n) s said = keeps_after (step s) (observed_from step n) said (keeps n)

  grows_after : (o : Outcome Event Ending State) (f g : State → List Event → Observation Event Ending)
      (said : List Event) → ((s : State) (said : List Event) → Grows (f s said) (g s said))
      → Grows (observed_after o f said) (observed_after o g said)
  grows_after (Went s) f g said h = h s said
  grows_after (Said event s) f g said h = h s (said ++ event ∷ [])
  grows_after (Ended end) f g said h = grows_refl _

  -- within more steps, more is observed, and nothing else once the run is over
  pub grows : (n m : ℕ) → n ≤ m → (s : State) (said : List Event) → Grows (observed_from step n s said)
      (observed_from step m s said)
  grows zero m le s said = record { events = keeps m s said; ending = λ end e. cc }
  grows (suc n) zero le s said = absurd (omega arith)
  grows (suc n) (suc m) le s said =
      grows_after (step s) (observed_from step n) (observed_from step m) said (grows n m (omega arith))
