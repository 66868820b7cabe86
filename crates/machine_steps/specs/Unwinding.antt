-- Where an exception goes (JVMS 3.10): to the first frame with an entry for it, from the running one down, or out of an
-- initialiser, or out of the last frame.
use Rattle.std.specs.Prelude.{◌≡◌, ℕ, suc, Bool, List, drop, slice_get, Option, Some, None}
use Rattle.std.specs.List.{AllByRecursion}
use Rattle.std.specs.Option.{option_map}
use Rattle.class_file.specs.Pool.{Reference}
use Rattle.class_heads.specs.Hierarchy.{name_at}
use Rattle.class_world.specs.Tables.{Known}
use Rattle.class_machine.specs.Values as machine
use Rattle.class_machine.specs.Values.{class_of}
use Rattle.class_machine.specs.Turn as turns
use Rattle.class_machine.specs.Machine.{State, handler_of, first_handler, catches, unwound}
use Rattle.class_machine.specs.ClassFiles.{Place, place_in, handlers_at, class_code}
use Rattle.machine_code.specs.declared.method_code.MethodCode as lent
use Rattle.machine_code.specs.Views.{code_seen, handlers_from}
use Rattle.machine_values.specs.declared.values.Ref.{Ref}
use Rattle.machine_values.specs.declared.names.Name.{Name}
use Rattle.machine_values.specs.declared.frames.Purpose.{Purpose}
use Rattle.machine_values.specs.declared.frames.Purpose.TheVariants.{Initialises}
use Rattle.machine_values.specs.declared.frames.Frame.{Frame}
use Rattle.machine_values.specs.declared.script.Answer.{Answer}
use Rattle.machine_values.specs.declared.state.MachineState.{MachineState}
use Rattle.machine_values.specs.Standing.{name_of}
use Rattle.machine_steps.specs.declared.step.Step.{Step}
use Rattle.machine_steps.specs.Programs.{Machine, IsMachine}
use Rattle.machine_steps.specs.Runs.{Runs, Stepped}
use Rattle.machine_steps.specs.Running.{seen_by}

-- ---- one frame

-- whether an entry with this class takes exceptions of the class of that number
abbrev pub TellsCatch : Known → ℕ → Option (List ℕ) → Bool → Type 0
TellsCatch k class catch taken =
    (m : Machine) (x : machine.Name) → IsMachine k m → class_of x ≡ name_at k.heads class → catches (class_code m.files) m.setting.classes x catch ≡ taken

abbrev pub handler_place : turns.Handler Place → Place
handler_place h = h.place

-- where the frame takes exceptions of the class
abbrev pub TellsHandler : Known → ℕ → Frame → Option ℕ → Type 0
TellsHandler k class g pc =
    (m : Machine) (names : List Name) (x : machine.Name) → IsMachine k m → class_of x ≡ name_at k.heads class
    → option_map handler_place (handler_of (class_code m.files) m.setting.classes x (seen_by m names g)) ≡ option_map (place_in (m.methods g.method.0)) pc

-- of an initialiser, the class that it initialises
abbrev pub initialised : Purpose → Option ℕ
initialised (Initialises class) = Some class.0
initialised _ = None

-- an exception of the class leaves the frame, and goes on below
pub record Passes (k : Known) (class : ℕ) (g : Frame) : Type 0 where
  pub handler : TellsHandler k class g None
  pub onward : initialised g.purpose ≡ None

-- of the entries of the code that cover the place, those from that number on decide
abbrev pub DecidesFrom : Known → ℕ → lent.MethodCode → ℕ → ℕ → Type 0
DecidesFrom k class code pc from =
    (m : Machine) (x : machine.Name) (r : Reference) → IsMachine k m → class_of x ≡ name_at k.heads class
    → first_handler (class_code m.files) m.setting.classes x (handlers_from r pc (code_seen code) from) ≡ first_handler (class_code m.files) m.setting.classes x (handlers_at r pc (Some (code_seen code)))

-- ---- all frames, the oldest first

-- the frame of that number takes it
pub record Catches (k : Known) (class : ℕ) (frames : List Frame) (index pc : ℕ) : Type 0 where
  pub frame : Frame
  pub there : slice_get frames index ≡ Some frame
  pub handler : TellsHandler k class frame (Some pc)
  pub passed : AllByRecursion (Passes k class) (drop (suc index) frames)

-- it leaves the initialiser of that class first
pub record FailsFor (k : Known) (class : ℕ) (frames : List Frame) (failed : ℕ) : Type 0 where
  pub index : ℕ
  pub frame : Frame
  pub there : slice_get frames index ≡ Some frame
  pub handler : TellsHandler k class frame None
  pub initialises : initialised frame.purpose ≡ Some failed
  pub passed : AllByRecursion (Passes k class) (drop (suc index) frames)

-- whatever state of the machine the old one stood for, the step is that of the exception in its frames
abbrev pub Unwinds : Known → MachineState → MachineState → Step → ℕ → Ref → Type 0
Unwinds k old new step class x =
    (m : Machine) (answers : List Answer) (t : State Place) → IsMachine k m → class_of (name_of m.setting.heads old.heap.names x) ≡ name_at k.heads class → Runs m old answers t
    → Stepped m new answers step (unwound (class_code m.files) m.setting.classes t.due (name_of m.setting.heads old.heap.names x) t.world t.frames)
