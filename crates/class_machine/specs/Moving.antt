-- The same code at other places, for the same classes: each instruction stands at the image of its place, and so does each
-- place where one goes. Methods may have more room and more locals.
use Rattle.std.specs.Prelude.{◌≡◌}
use Rattle.class_machine.specs.Turn.{Code}
use Rattle.class_machine.specs.Machine.{State}
use Rattle.class_machine.specs.Standing.{Stands, Handles, Arrives, AllStart}

module _ {P Q : Type 0} (at : P → Q) (code : Code P) (code' : Code Q) where
  pub record IsMoved : Type 0 where
    pub stands : (p : P) → Stands at at code code' p
    pub handles : (p : P) → Handles at at code code' p
    pub arrives : Arrives at at code code'

module _ {P Q : Type 0} (at : P → Q) where
  -- each frame stands where the other's place has its image, with its contents grown; all else is equal
  pub record StateMoved (s : State P) (t : State Q) : Type 0 where
    pub frames : AllStart at s.frames t.frames
    pub world : s.world ≡ t.world
    pub due : s.due ≡ t.due
