-- A test whose target is far: the opposite test over a jump.
use Rattle.std.specs.Prelude.{◌≡◌, ◌⊎◌, not, Option, Some, None}
use Rattle.class_machine.specs.declared.meaning.Basic.{Basic}
use Rattle.class_machine.specs.Numbers.{opposite}
use Rattle.class_machine.specs.Events as events
use Rattle.class_machine.specs.World.{World}
use Rattle.class_machine.specs.Operations.{Do}
use Rattle.class_machine.specs.Turn.{Code, Frame, frame_at, Turn, Stays, Finishes}
use Rattle.class_machine.specs.Renaming.{grown}
use Rattle.class_machine.specs.Standing.{Growth}

-- the test that jumps just where this one doesn't
abbrev pub opposed : Basic → Option Basic
opposed (Basic.IfInt t) = Some (Basic.IfInt (opposite t))
opposed (Basic.IfInts t) = Some (Basic.IfInts (opposite t))
opposed (Basic.IfReferences same) = Some (Basic.IfReferences (not same))
opposed (Basic.IfNull null) = Some (Basic.IfNull (not null))
opposed _ = None

module _ {P Q : Type 0} (f at : P → Q) (code : Code P) (code' : Code Q) where
  -- the test of the place p became the opposite test, over a jump to its target
  pub record Widens (p : P) (b b' : Basic) : Type 0 where
    pub old : code.line p ≡ Some (Do b)
    pub new : code'.line (at p) ≡ Some (Do b')
    pub opposite : opposed b ≡ Some b'
    pub over : code'.target (at p) 0 ≡ f (code.next p)
    pub jump : code'.line (code'.next (at p)) ≡ Some (Do Basic.Goto)
    pub to : code'.target (code'.next (at p)) 0 ≡ f (code.target p 0)

module _ {P Q : Type 0} (f : P → Q) (Alike : World → World → Type 0) where
  -- the turn of a test, made in one step or in two
  abbrev pub WidelyKept : (Frame Q → World → Turn Q) → Growth Q → Frame Q → World → Turn P → Type 0
  WidelyKept turn g y v (Stays p c w) =
      Alike w v × ((turn y v ≡ Stays (f p) (grown f g.locals c) v) ⊎ ((mid : Q) × (turn y v ≡ Stays mid (grown f g.locals c) v) × (turn (frame_at y mid (grown f g.locals c)) v ≡ Stays (f p) (grown f g.locals c) v)))
  WidelyKept turn g y v (Finishes said events.Broken) = Unit {0}
  WidelyKept turn g y v _ = ⊥
