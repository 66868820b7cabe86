-- The join point machine: it runs the original code, and at each join point the advice of its chain, from the aspects'
-- own text. What an instruction makes of its frame is the class machine's `turn`, and at a place without a chain the whole
-- step is the class machine's.
use Rattle.std.specs.Prelude.{◌++◌, if◌then◌else◌, List, [], ◌∷◌, map, Option, Some, None}
use Rattle.std.specs.Option.{option_map}
use Rattle.event_machine.specs.Outcome.{Went, Said, Ended, outcome_map}
use Rattle.class_file.specs.declared.types.ClassFile.{ClassFile}
use Rattle.class_machine.specs.Values.{Name, class_of, Held}
use Rattle.class_machine.specs.Events.{Event, Print, Ending, Returned, Uncaught, InitFailed, Broken, Answer}
use Rattle.class_machine.specs.Classes.{Method, Classes}
use Rattle.class_machine.specs.World.{World, shown, message_of}
use Rattle.class_machine.specs.Operations.{Operation}
use Rattle.class_machine.specs.Effect.{is_broken}
use Rattle.class_machine.specs.Turn.{Handler, Code, Purpose, Initialises, Frame, frame_at, Turn, Stays, Completes, Enters, Leaves, Begins, Raises, Finishes, effect_at, turn}
use Rattle.class_machine.specs.Machine.{Due, Finally, Step, State as ClassState, taking, handler_of, catching, leaving, completed, closing}
use Rattle.class_machine.specs.Start.{EntryArgument}
use Rattle.class_machine.specs.ClassFiles.{Place, class_code}
use Rattle.class_machine.specs.Run.{class_table, class_start}
use Rattle.jp_model.specs.Aspects.{Statement, PrintLine, Advice, Aspect}
use Rattle.jp_model.specs.JoinPoints.{chain_at}

pub data Activation (P : Type 0) : Type 0 where
  -- a frame of code
  Runs : (frame : Frame P) → Activation P
  -- a join point in progress: the frame whose instruction it is, and the rest of its chain
  Joins : (frame : Frame P) (rest : List Advice) → Activation P
  -- a frame of a body: the statements that are left
  Speaks : (body : List Statement) → Activation P

pub record State (P : Type 0) : Type 0 where
  -- what runs, and what waits for it
  pub activations : List (Activation P)
  pub world : World
  pub due : Due

-- a state of the class machine as one of this machine
abbrev pub as_activations : {P : Type 0} → ClassState P → State P
as_activations s = record { activations = map Runs s.frames; world = s.world; due = s.due }

-- one event for the line that a statement prints
abbrev pub event_of : Statement → Event
event_of (PrintLine text) = Print (text ++ 10 ∷ [])

-- as for the class machine: an ending is one step later than an event before it, and a broken step says nothing
abbrev pub telling : {P : Type 0} → Option Event → World → Step (State P) → Step (State P)
telling None w outcome = outcome
telling (Some event) w (Went s) = Said event s
telling (Some event) w (Said other s) = Said other s
telling (Some event) w (Ended Broken) = Ended Broken
telling (Some event) w (Ended ending) = Said event (record { activations = []; world = w; due = Finally ending })

module _ {P : Type 0} (code : Code P) (cs : Classes) (due : Due) where
  abbrev pub went : World → List (Activation P) → Step (State P)
  went w activations = Went (record { activations = activations; world = w; due = due })

  -- ---- results and exceptions

  -- a frame to which control came back goes on, or the run is over
  abbrev pub back_in : Frame P → Turn P → List (Activation P) → Step (State P)
  back_in f (Stays place c w) below = went w (Runs (frame_at f place c) ∷ below)
  back_in f (Completes said super place c w) below = telling said w (went w (Runs (completed code cs due f super place c) ∷ below))
  back_in f (Finishes said ending) below = Ended ending
  back_in f _ below = Ended Broken

  -- A result goes to the frame that waits at its call. That of an initialiser goes nowhere: what is below goes on as it
  -- stands, also a join point in progress. A join point whose action has called is left, and a body calls nothing.
  abbrev pub returned : Purpose → Option Held → World → List (Activation P) → Step (State P)
  returned (Initialises class) v w below = went w below
  returned purpose v w [] = Ended (Returned (option_map (shown w) v))
  returned purpose v w (Runs f ∷ below) = back_in f (taking code cs purpose v w f) below
  returned purpose v w (Joins f rest ∷ below) = Ended Broken
  returned purpose v w (Speaks body ∷ below) = Ended Broken

  abbrev pub handled : Option (Handler P) → Name → World → Frame P → List (Activation P) → Step (State P) → Step (State P)
  handled None x w f below otherwise = otherwise
  handled (Some h) x w f below otherwise = back_in f (catching code cs x h.place w f) below

  -- out of a frame without an entry for it; out of an initialiser it ends the run
  abbrev pub out_of : Purpose → Step (State P) → Step (State P)
  out_of (Initialises class) onward = Ended (InitFailed class)
  out_of purpose onward = onward

  -- The first frame with an entry for the exception goes on there. An exception that comes to a join point in progress
  -- leaves it, and belongs to its place; a body catches nothing.
  abbrev pub unwound : Name → World → List (Activation P) → Step (State P)
  unwound x w [] = Ended (Uncaught (class_of x) (message_of w x))
  unwound x w (Runs f ∷ below) =
      handled (handler_of code cs x f) x w f below (out_of f.purpose (unwound x (leaving f.monitor w) below))
  unwound x w (Joins f rest ∷ below) =
      handled (handler_of code cs x f) x w f below (out_of f.purpose (unwound x (leaving f.monitor w) below))
  unwound x w (Speaks body ∷ below) = unwound x w below

  abbrev pub finished : Option Event → World → Ending → Step (State P)
  finished said w ending = telling said w (Ended ending)

  -- What the turn of a frame makes of the activations. Initialisers go above the activation as it stands, so that the
  -- instruction is executed again as the same join point, and no advice runs twice.
  abbrev pub moved : Turn P → World → Activation P → Frame P → List (Activation P) → Step (State P)
  moved (Stays place c w') w standing f below = went w' (Runs (frame_at f place c) ∷ below)
  moved (Completes said super place c w') w standing f below =
      telling said w' (went w' (Runs (completed code cs due f super place c) ∷ below))
  moved (Enters callee c w') w standing f below = went w' (Runs callee ∷ Runs (frame_at f f.place c) ∷ below)
  moved (Leaves v w') w standing f below = returned f.purpose v (leaving f.monitor w') below
  moved (Begins frames w') w standing f below = went w' (map Runs frames ++ (standing ∷ below))
  moved (Raises said x c w') w standing f below = telling said w' (unwound x w' (Runs (frame_at f f.place c) ∷ below))
  moved (Finishes said ending) w standing f below = finished said w ending

  -- ---- join points

  -- the join point's own action: search, initialisation and exceptions of the machine are part of it
  abbrev pub acts : Activation P → Frame P → World → List (Activation P) → Step (State P)
  acts standing f w below = moved (turn code cs f w) w standing f below

  -- A join point with a chain begins only where the instruction finds its operands; where it
  -- doesn't, the run is broken and nothing of the chain runs.
  abbrev pub begins : Option Operation → List Advice → Frame P → World → List (Activation P) → Step (State P)
  begins None chain f w below = Ended Broken
  begins (Some operation) chain f w below =
      if is_broken (effect_at code cs f operation) then Ended Broken else went w (Joins f chain ∷ below)

  -- a join point without a chain performs its action in the step
  abbrev pub arrives : List Advice → Frame P → World → List (Activation P) → Step (State P)
  arrives [] f w below = acts (Runs f) f w below
  arrives (a ∷ chain) f w below = begins (code.line f.place) (a ∷ chain) f w below

module _ {P : Type 0} (code : Code P) (cs : Classes) (aspects : List Aspect) where
  abbrev pub stepped : Due → World → List (Activation P) → Step (State P)
  stepped due w [] = outcome_map as_activations (closing cs w due)
  stepped due w (Runs f ∷ below) = arrives code cs due (chain_at code aspects f.place) f w below
  -- the advice runs, and then the rest of the chain; an empty rest performs the action
  stepped due w (Joins f [] ∷ below) = acts code cs due (Joins f []) f w below
  stepped due w (Joins f (a ∷ rest) ∷ below) = went code cs due w (Speaks a.body ∷ Joins f rest ∷ below)
  stepped due w (Speaks [] ∷ below) = went code cs due w below
  stepped due w (Speaks (s ∷ body) ∷ below) = Said (event_of s) (record { activations = Speaks body ∷ below; world = w; due = due })

  -- one step of the join point machine
  abbrev pub step : State P → Step (State P)
  step s = stepped s.due s.world s.activations

-- ---- on class files

abbrev pub aspect_step : List ClassFile → List Aspect → State Place → Step (State Place)
aspect_step classes aspects = step (class_code classes) (class_table classes) aspects

-- A run starts as that of the class machine does.
abbrev pub aspect_start : List ClassFile → List Answer → Method → List EntryArgument → State Place
aspect_start classes answers m words = as_activations (class_start classes answers m words)
