-- What is shown of two machines to have them observationally equivalent, by a forward simulation with progress:
-- from related states both come to related states again, or to the end.
use Rattle.std.specs.Prelude.{◌≡◌, ℕ, ◌<◌, ◌≤◌, List, Some, Bool, IsTrue}
use Rattle.event_machine.specs.Outcome.{Outcome}
use Rattle.event_machine.specs.Observation.{observed_from, IsPrefix}

-- From the state s, where `said` are the events before, the machine comes in some number of steps, maybe none,
-- to the state s' and the events said'. It is told by what is observed: whatever follows is the same from both.
pub record Comes {Event Ending State : Type 0} (step : State → Outcome Event Ending State) (s : State)
    (said : List Event) (s' : State) (said' : List Event) : Type 0 where
  pub by : (k : ℕ) → (j : ℕ) × (k ≤ j) × (observed_from step j s said ≡ observed_from step k s' said')

-- the same, in one step or more
pub record Leads {Event Ending State : Type 0} (step : State → Outcome Event Ending State) (s : State)
    (said : List Event) (s' : State) (said' : List Event) : Type 0 where
  pub by : (k : ℕ) → (j : ℕ) × (k < j) × (observed_from step j s said ≡ observed_from step k s' said')

-- from the state s, where `said` are the events before, the machine comes to this ending with the events said'
pub record Ends {Event Ending State : Type 0} (step : State → Outcome Event Ending State) (s : State)
    (said : List Event) (end : Ending) (said' : List Event) : Type 0 where
  pub steps : ℕ
  pub observation : observed_from step steps s said ≡ record { events = said'; ending = Some end }

-- the rank of machines neither of which ever stands still
abbrev pub no_waits : {S T : Type 0} → S → T → ℕ
no_waits s t = 0

-- What two machines do from two states, where both have said the same events before. One of:
-- Both: each takes one step or more, they say the same, and come to related states;
-- Waits: the same, but one of them or both may stand still, and then the rank of the two states falls,
-- so that no machine stands still for ever while the other goes on;
-- End: both come to the same ending with the same events;
-- Breaks: the first comes to a broken ending, and at some time the second has said at least as much.
pub data Follows {Event Ending S T : Type 0} (is_broken : Ending → Bool) (first : S → Outcome Event Ending S)
    (second : T → Outcome Event Ending T) (Related : S → T → Type 0) (rank : S → T → ℕ) (s : S) (t : T)
    (said : List Event) : Type 0 where
  Both : (s' : S) (t' : T) (said' : List Event) → Leads first s said s' said' → Leads second t said t' said'
      → Related s' t' → Follows is_broken first second Related rank s t said
  Waits : (s' : S) (t' : T) (said' : List Event) → rank s' t' < rank s t → Comes first s said s' said'
      → Comes second t said t' said' → Related s' t' → Follows is_broken first second Related rank s t said
  End : (end : Ending) (said' : List Event) → Ends first s said end said' → Ends second t said end said'
      → Follows is_broken first second Related rank s t said
  Breaks : (end : Ending) → IsTrue (is_broken end) → (said' : List Event) (m : ℕ)
      → Ends first s said end said' → IsPrefix said' (observed_from second m t said).events
      → Follows is_broken first second Related rank s t said
