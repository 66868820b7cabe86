-- Deterministic machines that say events as they run.
-- A machine is a step function of its states. What its events and its endings are, the crate above says.

-- what one step does: it goes on to a state in silence, it goes on to a state with one event, or it ends the run
pub data Outcome (Event Ending State : Type 0) : Type 0 where
  Went : (s : State) → Outcome Event Ending State
  Said : (event : Event) (s : State) → Outcome Event Ending State
  Ended : (ending : Ending) → Outcome Event Ending State

-- the same step, with an image in place of the state that it goes on to
abbrev pub outcome_map : {Event Ending S T : Type 0} → (S → T) → Outcome Event Ending S
    → Outcome Event Ending T
outcome_map image (Went s) = Went (image s)
outcome_map image (Said event s) = Said event (image s)
outcome_map image (Ended ending) = Ended ending

-- the same step, with a label in place of its event: where it goes on and how it ends stay
abbrev pub outcome_relabel : {Event Label Ending S : Type 0} → (Event → Label) → Outcome Event Ending S
    → Outcome Label Ending S
outcome_relabel label (Went s) = Went s
outcome_relabel label (Said event s) = Said (label event) s
outcome_relabel label (Ended ending) = Ended ending
