-- Counts of monitors, by the places of objects; 0 past the end.
use Rattle.std.specs.Prelude.{◌≡◌, ◌≢◌, ℕ, List, slice_index}
use Rattle.class_machine.specs.World.{World}
use Rattle.machine_values.specs.Things.{Things}
use Rattle.machine_requests.specs.Shares.{Setting, Others, Shares}

abbrev pub HasSameCounts : List ℕ → List ℕ → Type 0
HasSameCounts old new = (place : ℕ) → slice_index new place ≡ slice_index old place

-- the one monitor has the count, and the others have theirs
pub record IsCounted (old : List ℕ) (at count : ℕ) (new : List ℕ) : Type 0 where
  pub counted : slice_index new at ≡ count
  pub others : (place : ℕ) → place ≢ at → slice_index new place ≡ slice_index old place

abbrev pub with_monitors : Others → List ℕ → Others
with_monitors others monitors = record others { monitors = monitors }

-- whatever world they stood for, they stand for it still
abbrev pub StandsStill : Things → Others → Things → Others → Type 0
StandsStill things others things' others' = (s : Setting) (w : World) → Shares s things others w → Shares s things' others' w
