-- Two machines in lockstep: one step of the one answers one step of the other.
use Rattle.std.specs.Prelude.{◌≡◌, Bool, IsTrue, ◌⊎◌}
use Rattle.event_machine.specs.Outcome.{Outcome, Went, Said, Ended}

-- The two steps say the same event, or none, and go on to related states; or both end the run in the same way;
-- or the first ends it broken, and then the second may do anything.
abbrev pub Alike : {Event Ending S T : Type 0} → (Ending → Bool) → (S → T → Type 0) → Outcome Event Ending S
    → Outcome Event Ending T → Type 0
Alike is_broken Related (Went s) (Went t) = Related s t
Alike is_broken Related (Said event s) (Said event' t) = (event ≡ event') × Related s t
Alike is_broken Related (Ended end) o = IsTrue (is_broken end) ⊎ (o ≡ Ended end)
Alike is_broken Related (Went s) (Said event t) = ⊥
Alike is_broken Related (Went s) (Ended end) = ⊥
Alike is_broken Related (Said event s) (Went t) = ⊥
Alike is_broken Related (Said event s) (Ended end) = ⊥
