-- Observational equivalence of two machines: both say the same events and end in the same way, except that nothing
-- is asked of the second once the first is broken.
-- `is_broken` tells the endings that stand for a run that went wrong, after which no more is claimed.
use Rattle.std.specs.Prelude.{◌≡◌, ℕ, Bool, IsTrue, IsFalse, ◌⊎◌, Some}
use Rattle.event_machine.specs.Outcome.{Outcome}
use Rattle.event_machine.specs.Observation.{Observation, observed, IsPrefix}

-- The first's events are the beginning of the second's. Where the first has an ending other than a broken one,
-- the second has that ending, with equal events.
pub record Within {Event Ending : Type 0} (is_broken : Ending → Bool)
    (first second : Observation Event Ending) : Type 0 where
  pub events : IsPrefix first.events second.events
  pub ending : (end : Ending) → first.ending ≡ Some end → IsFalse (is_broken end) → second ≡ first

-- The second's events are the beginning of the first's. Where the second has an ending, any ending,
-- the first has that ending, with equal events.
pub record Covers {Event Ending : Type 0} (first second : Observation Event Ending) : Type 0 where
  pub events : IsPrefix second.events first.events
  pub ending : (end : Ending) → second.ending ≡ Some end → first ≡ second

-- the run has come to a broken ending
pub record IsBroken {Event Ending : Type 0} (is_broken : Ending → Bool)
    (o : Observation Event Ending) : Type 0 where
  pub end : Ending
  pub reached : o.ending ≡ Some end
  pub judged : IsTrue (is_broken end)

-- the first is broken, and its events are the beginning of the second's
pub record Excuses {Event Ending : Type 0} (is_broken : Ending → Bool)
    (first second : Observation Event Ending) : Type 0 where
  pub broken : IsBroken is_broken first
  pub events : IsPrefix first.events second.events

-- The first machine from the state s and the second machine from the state t are observationally equivalent.
-- Forth: whatever is observed of the first within some number n of steps is observed of the second within some m.
-- Back: whatever is observed of the second within some number n of steps is observed of the first within some m,
-- or the first is broken within some m and the second has said at least what the first said until then.
-- So the second is broken only where the first is, and neither is silent for ever where the other speaks or ends.
pub record Equivalent {Event Ending S T : Type 0} (is_broken : Ending → Bool)
    (first : S → Outcome Event Ending S) (s : S) (second : T → Outcome Event Ending T) (t : T) : Type 0 where
  pub forth : (n : ℕ) → (m : ℕ) × Within is_broken (observed first n s) (observed second m t)
  pub back : (n : ℕ) → (m : ℕ)
      × (Covers (observed first m s) (observed second n t)
      ⊎ Excuses is_broken (observed first m s) (observed second n t))
