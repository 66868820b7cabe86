-- What becomes of the frames below the running one, and the step of the class machine (JVMS 3.6.4, 3.6.5, 3.10).
-- Unwinding takes no step of its own: an exception that leaves ten frames does so in the step that raises it.
use Rattle.std.specs.Prelude.{ℕ, ◌&&◌, ◌||◌, Bool, true, false, not, if◌then◌else◌, nat_le, List, [], ◌∷◌, ◌++◌, Option, Some, None}
use Rattle.std.specs.Option.{option_map}
use Rattle.event_machine.specs.Outcome.{Outcome, Went, Said, Ended}
use Rattle.class_file.specs.Pool.{Reference}
use Rattle.class_machine.specs.Values.{Name, class_of, Held, Reference as Pointer, held_width, Plain, Content, content, pushed_on, has_room}
use Rattle.class_machine.specs.Events.{Event, Ending, Returned, Uncaught, InitFailed, ScriptEnds, Broken}
use Rattle.class_machine.specs.Classes.{Classes}
use Rattle.class_machine.specs.World.{World, shown, message_of, leave_monitor}
use Rattle.class_machine.specs.LibraryCalls.{Wait, resume}
use Rattle.class_machine.specs.Natives.{Response, Returns, Throws, Lacks, respond, native_event}
use Rattle.class_machine.specs.Turn.{Handler, Code, Purpose, Ordinary, Constructs, Initialises, Within, Frame, frame_at, Turn, Stays, Completes, Enters, Leaves, Begins, Raises, Finishes, stops, stays, completes, worked, turn}

-- what is still to come when no frame is left
pub data Due : Type 0 where
  Nothing : Due
  -- the entry is a native method, which is still to be called
  NativeEntry : (method : Reference) (given : List Held) → Due
  -- the run is over
  Finally : (ending : Ending) → Due

pub record State (P : Type 0) : Type 0 where
  -- the running frame, and those that wait for it
  pub frames : List (Frame P)
  pub world : World
  pub due : Due

-- a step of a machine of this project
abbrev pub Step : Type 0 → Type 0
Step S = Outcome Event Ending S

-- ---- one frame to which control comes back

module _ {P : Type 0} (code : Code P) (cs : Classes) where
  abbrev pub result_taken : Option Held → World → Frame P → (Content P → Turn P) → Turn P
  result_taken None w f go = go f.content
  result_taken (Some h) w f go = if has_room f.room (held_width h) f.content.operands then go (pushed_on (Plain h) f.content) else stops Broken

  abbrev pub text_taken : Option Held → World → Frame P → Wait → Turn P
  text_taken None w f wait = stops Broken
  text_taken (Some v) w f wait = worked code cs f f.content w false (resume wait v w)

  -- what a result makes of the frame that waits for it at its call
  abbrev pub taking : Purpose → Option Held → World → Frame P → Turn P
  taking Ordinary v w f = result_taken v w f (λ c. stays code cs (code.next f.place) c w)
  taking Constructs v w f = result_taken v w f (λ c. completes code cs None true (code.next f.place) c w)
  taking (Initialises class) v w f = Stays f.place f.content w
  taking (Within wait) v w f = text_taken v w f wait

  -- a class that isn't there and an interface catch nothing
  abbrev pub catches : Name → Option (List ℕ) → Bool
  catches x None = true
  catches x (Some class) = cs.knows class && (not (cs.is_interface class) && cs.is_subtype (class_of x) class)

  abbrev pub first_handler : Name → List (Handler P) → Option (Handler P)
  first_handler x [] = None
  first_handler x (h ∷ handlers) = if catches x h.catch then Some h else first_handler x handlers

  -- the entry that takes the exception in the frame
  abbrev pub handler_of : Name → Frame P → Option (Handler P)
  handler_of x f = first_handler x (code.handlers f.place)

  -- what an exception makes of a frame that catches it: it goes on there, with the exception alone
  abbrev pub catching : Name → P → World → Frame P → Turn P
  catching x place w f = if nat_le 1 f.room then stays code cs place (content (Plain (Pointer x) ∷ []) f.content.locals) w else stops Broken

-- where a frame of a synchronized method is left, so is its monitor
abbrev pub leaving : Option Name → World → World
leaving None w = w
leaving (Some a) w = leave_monitor w a

-- ---- all frames

-- the step says the event, and an ending that it comes to is one step later; a broken step says nothing
abbrev pub telling : {P : Type 0} → Option Event → World → Step (State P) → Step (State P)
telling None w outcome = outcome
telling (Some event) w (Went s) = Said event s
telling (Some event) w (Said other s) = Said other s
telling (Some event) w (Ended Broken) = Ended Broken
telling (Some event) w (Ended ending) = Said event (record { frames = []; world = w; due = Finally ending })

module _ {P : Type 0} (code : Code P) (cs : Classes) (due : Due) where
  abbrev pub went : World → List (Frame P) → Step (State P)
  went w frames = Went (record { frames = frames; world = w; due = due })

  abbrev pub completed : Frame P → Bool → P → Content P → Frame P
  completed f super place c = record f { place = place; content = c; constructed = f.constructed || super }

  -- a frame to which control came back goes on, or the run is over
  abbrev pub back_in : Frame P → Turn P → List (Frame P) → Step (State P)
  back_in f (Stays place c w) below = went w (frame_at f place c ∷ below)
  back_in f (Completes said super place c w) below = telling said w (went w (completed f super place c ∷ below))
  back_in f (Finishes said ending) below = Ended ending
  back_in f _ below = Ended Broken

  abbrev pub returned : Purpose → Option Held → World → List (Frame P) → Step (State P)
  returned (Initialises class) v w below = went w below
  returned purpose v w [] = Ended (Returned (option_map (shown w) v))
  returned purpose v w (f ∷ below) = back_in f (taking code cs purpose v w f) below

  abbrev pub handled : Option (Handler P) → Name → World → Frame P → List (Frame P) → Step (State P) → Step (State P)
  handled None x w f below otherwise = otherwise
  handled (Some h) x w f below otherwise = back_in f (catching code cs x h.place w f) below

  -- out of a frame without an entry for it; out of an initialiser it ends the run
  abbrev pub out_of : Purpose → Step (State P) → Step (State P)
  out_of (Initialises class) onward = Ended (InitFailed class)
  out_of purpose onward = onward

  -- the first frame with an entry for the exception goes on there
  abbrev pub unwound : Name → World → List (Frame P) → Step (State P)
  unwound x w [] = Ended (Uncaught (class_of x) (message_of w x))
  unwound x w (f ∷ below) =
      handled (handler_of code cs x f) x w f below (out_of f.purpose (unwound x (leaving f.monitor w) below))

  abbrev pub finished : Option Event → World → Ending → Step (State P)
  finished said w ending = telling said w (Ended ending)

  abbrev pub moved : Turn P → World → Frame P → List (Frame P) → Step (State P)
  moved (Stays place c w') w f below = went w' (frame_at f place c ∷ below)
  moved (Completes said super place c w') w f below = telling said w' (went w' (completed f super place c ∷ below))
  moved (Enters callee c w') w f below = went w' (callee ∷ frame_at f f.place c ∷ below)
  moved (Leaves v w') w f below = returned f.purpose v (leaving f.monitor w') below
  moved (Begins frames w') w f below = went w' (frames ++ (f ∷ below))
  moved (Raises said x c w') w f below = telling said w' (unwound x w' (frame_at f f.place c ∷ below))
  moved (Finishes said ending) w f below = finished said w ending

-- ---- when no frame is left

-- a native entry: its event, and its answer ends the run
abbrev pub answered : {P : Type 0} → World → Event → Response → Step (State P)
answered w event (Returns v w') = Said event (record { frames = []; world = w'; due = Finally (Returned (option_map (shown w') v)) })
answered w event (Throws x w') = Said event (record { frames = []; world = w'; due = Finally (Uncaught (class_of x) (message_of w' x)) })
answered w event Lacks = Said event (record { frames = []; world = w; due = Finally ScriptEnds })

abbrev pub closing : {P : Type 0} → Classes → World → Due → Step (State P)
closing cs w Nothing = Ended Broken
closing cs w (NativeEntry method given) = answered w (native_event w method given) (respond cs w method)
closing cs w (Finally ending) = Ended ending

module _ {P : Type 0} (code : Code P) (cs : Classes) where
  abbrev pub stepped : Due → World → List (Frame P) → Step (State P)
  stepped due w [] = closing cs w due
  stepped due w (f ∷ below) = moved code cs due (turn code cs f w) w f below

  -- one step of the class machine
  abbrev pub step : State P → Step (State P)
  step s = stepped s.due s.world s.frames
