-- What is observed of a run within a number of steps.
use Rattle.std.specs.Prelude.{◌≡◌, ℕ, zero, suc, List, [], ◌∷◌, ◌++◌, map, Option, Some, None}
use Rattle.event_machine.specs.Outcome.{Outcome, Went, Said, Ended}

-- the events that were said, the oldest first, and how the run ended, where it has ended
pub record Observation (Event Ending : Type 0) : Type 0 where
  pub events : List Event
  pub ending : Option Ending

-- What is observed once a step has been taken, where `said` are the events before it
-- and `onward` observes the run from the next state.
abbrev pub observed_after : {Event Ending State : Type 0} → Outcome Event Ending State
    → (State → List Event → Observation Event Ending) → List Event → Observation Event Ending
observed_after (Went s) onward said = onward s said
observed_after (Said event s) onward said = onward s (said ++ event ∷ [])
observed_after (Ended ending) onward said = record { events = said; ending = Some ending }

-- What is observed within n steps from a state, where `said` are the events before.
-- A run that is over takes no further step: the steps that are left change nothing.
abbrev pub observed_from : {Event Ending State : Type 0} → (State → Outcome Event Ending State) → ℕ → State
    → List Event → Observation Event Ending
observed_from step zero s said = record { events = said; ending = None }
observed_from step (suc n) s said = observed_after (step s) (observed_from step n) said

-- what is observed within n steps from a state
abbrev pub observed : {Event Ending State : Type 0} → (State → Outcome Event Ending State) → ℕ → State
    → Observation Event Ending
observed step n s = observed_from step n s []

-- the first list is the beginning of the second
pub record IsPrefix {Event : Type 0} (xs ys : List Event) : Type 0 where
  pub rest : List Event
  pub whole : xs ++ rest ≡ ys

-- The second observation may come later in the same run as the first:
-- it has the first's events and maybe more, and where the first has an ending, it is the first.
pub record Grows {Event Ending : Type 0} (old new : Observation Event Ending) : Type 0 where
  pub events : IsPrefix old.events new.events
  pub ending : (end : Ending) → old.ending ≡ Some end → new ≡ old

-- the same observation, with a label in place of each event
abbrev pub observation_relabel : {Event Label Ending : Type 0} → (Event → Label) → Observation Event Ending
    → Observation Label Ending
observation_relabel label o = record { events = map label o.events; ending = o.ending }
