-- What a static call comes to, once its arguments are taken.
use Rattle.std.specs.Prelude.{◌≡◌, ℕ, ◌++◌, Bool, false, List, [], ◌∷◌, length, Option, Some}
use Rattle.std.specs.List.{AllByRecursion}
use Rattle.class_file.specs.Pool.{Reference}
use Rattle.class_world.specs.Tables.{Known}
use Rattle.class_machine.specs.ClassFiles.{Place, class_code}
use Rattle.class_machine.specs.Classes.{Method}
use Rattle.class_machine.specs.Events as events
use Rattle.class_machine.specs.Machine.{State}
use Rattle.class_machine.specs.Turn as turns
use Rattle.class_machine.specs.Turn.{Turn, Ordinary, linked, pending, runs, stops}
use Rattle.class_machine.specs.World.{begin}
use Rattle.machine_values.specs.declared.frames.Frame.{Frame}
use Rattle.machine_values.specs.declared.script.Answer.{Answer}
use Rattle.machine_values.specs.declared.state.MachineState.{MachineState}
use Rattle.machine_values.specs.declared.values.Value.{Value}
use Rattle.machine_values.specs.Standing.{Settled}
use Rattle.machine_steps.specs.Programs.{Machine, IsMachine}
use Rattle.machine_steps.specs.Runs.{Runs}
use Rattle.machine_invocations.specs.Initialising.{begun_state}
use Rattle.machine_invocations.specs.Methods.{classes_in, Sees}
use Rattle.machine_invocations.specs.Standards.{machine_of}
use Rattle.machine_invokes.specs.declared.starting.Start.{Start}
use Rattle.machine_invokes.specs.declared.starting.Start.TheVariants.{Missing, Breaks, Begins, Runs as Goes}
use Rattle.machine_invokes.specs.Choosing.{LacksRoom, static_link}
use Rattle.machine_invokes.specs.Undoing.{AreSaved}

-- ---- the trigger of a class

-- the state of the machine where the class and those above it are marked
abbrev pub marked_state : Machine → State Place → List ℕ → State Place
marked_state m t class = record t { world = begin m.setting.classes t.world class }

-- no initialiser was pending
pub record GoesOn (m : Machine) (new : MachineState) (left : List Answer) (t : State Place) (class : List ℕ) : Type 0 where
  pub none : pending (class_code m.files) m.setting.classes t.world class ≡ []
  pub runs : Runs m new left (marked_state m t class)

-- some initialisers were pending
pub record Waits (m : Machine) (new : MachineState) (left : List Answer) (t : State Place) (class : List ℕ) : Type 0 where
  pub first : turns.Frame Place
  pub others : List (turns.Frame Place)
  pub some : pending (class_code m.files) m.setting.classes t.world class ≡ first ∷ others
  pub runs : Runs m new left (begun_state m t class)

-- frames were put on top
pub record PutsOnTop (old new : MachineState) : Type 0 where
  pub own : List Frame
  pub frames : new.frames.items ≡ old.frames.items ++ own
  pub same : new ≡ record old { frames = new.frames; begun = new.begun }

pub record Triggers (k : Known) (old new : MachineState) (class : List ℕ) (saved : Option (List Bool)) : Type 0 where
  pub same : AreSaved old new saved
  pub there : (m : Machine) (left : List Answer) (t : State Place) → IsMachine k m → Runs m old left t → GoesOn m new left t class

pub record Waiting (k : Known) (old new : MachineState) (class : List ℕ) : Type 0 where
  pub put : PutsOnTop old new
  pub there : (m : Machine) (left : List Answer) (t : State Place) → IsMachine k m → Runs m old left t → Waits m new left t class

-- the trigger of the class of the method
abbrev pub StartsClass : Known → MachineState → MachineState → ℕ → Start → Type 0
StartsClass k old new number Begins = (m : Method) → Sees k number m → Waiting k old new m.name.class
StartsClass k old new number (Goes method saved) = (method.0 ≡ number) × ((m : Method) → Sees k number m → Triggers k old new m.name.class saved)
StartsClass k old new number start = ⊥

-- ---- the call

-- the arguments name objects that there are, and are plain
abbrev pub AreFine : MachineState → List Value → Type 0
AreFine state given = AllByRecursion (Settled (length state.heap.names)) given

module _ (k : Known) (g : Frame) (r : Reference) (given : List Value) where
  -- whatever the methods are called, the search comes to that
  abbrev pub LinkIs : MachineState → turns.Link → Type 0
  LinkIs state link = (fields methods : ℕ → Reference) → IsMachine k (machine_of k fields methods) → AreFine state given → static_link k g fields methods state.heap.names r given ≡ link

  pub record RunsSo (old new : MachineState) (number : ℕ) (saved : Option (List Bool)) : Type 0 where
    pub method : Method
    pub sees : Sees k number method
    pub found : (classes_in k).method r ≡ Some method
    pub link : LinkIs old (turns.Needs method.name.class)
    pub roomy : LacksRoom k g number false
    pub fine : AreFine old given
    pub triggers : Triggers k old new method.name.class saved

  pub record BeginsSo (old new : MachineState) : Type 0 where
    pub class : List ℕ
    pub link : LinkIs old (turns.Needs class)
    pub waiting : Waiting k old new class

  abbrev pub Starts : MachineState → MachineState → Start → Type 0
  Starts old new Missing = (new ≡ old) × LinkIs old (turns.missing_member r)
  Starts old new Breaks = (new ≡ old) × LinkIs old (turns.Refused events.Broken)
  Starts old new Begins = BeginsSo old new
  Starts old new (Goes method saved) = RunsSo old new method.0 saved

-- the running frame is such
abbrev pub StartsAtTop : Known → MachineState → MachineState → Reference → List Value → Start → Type 0
StartsAtTop k old new r given start = (rest : List Frame) (g : Frame) → old.frames.items ≡ rest ++ g ∷ [] → Starts k g r given old new start
