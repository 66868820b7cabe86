-- What becomes of a frame whose call of the library has come to its work.
use Rattle.std.specs.Prelude.{◌≡◌, ℕ, Bool, true, false, if◌then◌else◌, List, ◌∷◌, ◌++◌, codes, map, Option}
use Rattle.std.specs.Option.{option_map}
use Rattle.aj_names.specs.declared.types.FieldType.{FieldType}
use Rattle.class_heads.specs.Hierarchy.{is_array}
use Rattle.class_world.specs.Tables.{Known}
use Rattle.class_machine.specs.Classes.{Method, Classes}
use Rattle.class_machine.specs.ClassFiles.{Place, class_code}
use Rattle.class_machine.specs.LibraryCalls as calls
use Rattle.class_machine.specs.Machine.{State, moved}
use Rattle.class_machine.specs.Turn.{Frame, given_back, completes, enter_within, gives_class, loads, pending, worked}
use Rattle.class_machine.specs.Values.{class_of}
use Rattle.class_machine.specs.World.{World}
use Rattle.machine_values.specs.declared.frames.Frame as kept
use Rattle.machine_values.specs.declared.frames.Wait.{Wait}
use Rattle.machine_values.specs.declared.observed.Event.{Event}
use Rattle.machine_values.specs.declared.script.Answer.{Answer}
use Rattle.machine_values.specs.declared.state.MachineState.{MachineState}
use Rattle.machine_values.specs.declared.values.Ref.{Ref}
use Rattle.machine_values.specs.declared.values.Value.{Value}
use Rattle.machine_values.specs.Observed.{machine_answer, machine_event}
use Rattle.machine_values.specs.Standing.{name_of}
use Rattle.machine_values.specs.States.{machine_wait}
use Rattle.machine_values.specs.Types.{type_name}
use Rattle.machine_requests.specs.Objects.{AreFilled}
use Rattle.machine_requests.specs.Replies.{IsLonger}
use Rattle.machine_requests.specs.Shares.{HasFrames, others_of}
use Rattle.machine_rules.specs.declared.work.Work.{Work}
use Rattle.machine_rules.specs.declared.work.Work.TheVariants.{Throws}
use Rattle.machine_rules.specs.Works.{Works}
use Rattle.machine_steps.specs.declared.step.Step.{Step}
use Rattle.machine_steps.specs.Moves.{Turning, moved_by}
use Rattle.machine_steps.specs.Programs.{Machine, IsMachine}
use Rattle.machine_steps.specs.Runs.{Runs, Stepped}
use Rattle.machine_invocations.specs.Initialising.{has_frame, Begins}
use Rattle.machine_invocations.specs.Returning.{result_held}
use Rattle.machine_works.specs.declared.finishing.Loading.{Loading}
use Rattle.machine_works.specs.declared.finishing.Loading.TheVariants as loaded

-- ---- turns

-- on behind the call with the result, if there is one, and with the event
abbrev pub ends_call : Option Event → Bool → Option Value → MachineState → Turning
ends_call said super value old m t f =
    given_back (class_code m.files) m.setting.classes f (result_held m old value) f.content
    (λ all. completes (class_code m.files) m.setting.classes (option_map machine_event said) super ((class_code m.files).next f.place) all t.world)

-- into the method that gives the text
abbrev pub calls_within : Method → Ref → Wait → MachineState → Turning
calls_within callee object wait old m t f =
    enter_within (class_code m.files) m.setting.classes f.content t.world callee (name_of m.setting.heads old.heap.names object) (machine_wait m.setting.heads m.methods old.heap.names wait)

-- to the initialisers of the class that are pending, or on with the object that stands for it
abbrev pub loads_class : FieldType → Turning
loads_class type m t f =
    if is_array (type_name type) then gives_class (class_code m.files) m.setting.classes f f.content t.world (type_name type)
    else loads (class_code m.files) m.setting.classes f f.content t.world (type_name type) (pending (class_code m.files) m.setting.classes t.world (type_name type))

-- Whatever state of the machine with a running frame the old one stood for, where it knows the class.
abbrev pub MovesToClass : Known → MachineState → MachineState → Step → FieldType → Type 0
MovesToClass k old new step type =
    (m : Machine) (left : List Answer) (t : State Place) (f : Frame Place) (below : List (Frame Place)) → IsMachine k m → Runs m old left t → t.frames ≡ f ∷ below
    → m.setting.classes.knows (type_name type) ≡ true → Stepped m new left step (moved_by (loads_class type) m t f below)

-- whether initialisers of the class come first
abbrev pub comes_first : FieldType → Machine → World → Bool
comes_first type m w = if is_array (type_name type) then false else has_frame (pending (class_code m.files) m.setting.classes w (type_name type))

-- none does, and the step is that
pub record GoesToClass (k : Known) (old new : MachineState) (step : Step) (type : FieldType) : Type 0 where
  pub moves : MovesToClass k old new step type
  pub none : (m : Machine) (left : List Answer) (t : State Place) → IsMachine k m → Runs m old left t → m.setting.classes.knows (type_name type) ≡ true → comes_first type m t.world ≡ false

-- some initialisers were pending
pub record ComesFirst (m : Machine) (new : MachineState) (left : List Answer) (t : State Place) (class : List ℕ) : Type 0 where
  pub flat : is_array class ≡ false
  pub begins : Begins m new left t class true

-- their frames were put on top
pub record BeginsClass (k : Known) (old new : MachineState) (type : FieldType) : Type 0 where
  pub own : List kept.Frame
  pub frames : new.frames.items ≡ old.frames.items ++ own
  pub same : new ≡ record old { frames = new.frames; begun = new.begun; heap = new.heap }
  pub names : IsLonger old.heap new.heap
  pub there : (m : Machine) (left : List Answer) (t : State Place) → IsMachine k m → Runs m old left t → ComesFirst m new left t (type_name type)

abbrev pub LoadsClass : Known → MachineState → MachineState → FieldType → Loading → Type 0
LoadsClass k old new type loaded.Begins = BeginsClass k old new type
LoadsClass k old new type (loaded.Goes step) = GoesToClass k old new step type

-- ---- work

-- what all work of the library is like: the same answers are left, what is thrown is an exception of the library, and what is
-- loaded is there
abbrev pub IsSound : Classes → World → calls.Work → Type 0
IsSound cs w (calls.Results said v after) = after.answers ≡ w.answers
IsSound cs w (calls.Throws x after) = (after.answers ≡ w.answers) × (class_of x ≡ codes "java/lang/ClassNotFoundException")
IsSound cs w (calls.Calls m a wait after) = after.answers ≡ w.answers
IsSound cs w (calls.Loads class) = cs.knows class ≡ true
IsSound cs w other = Unit {0}

-- a call of the library came to that work: the frames are those of the machine's state, and the heap is that which the work
-- goes on with
pub record IsAtWork (k : Known) (m : Machine) (state : MachineState) (left : List Answer) (t : State Place) (work : Work) (other : calls.Work) : Type 0 where
  pub is : IsMachine k m
  pub frames : HasFrames m.setting.heads m.methods state t
  pub answers : t.world.answers ≡ map machine_answer left
  pub filled : AreFilled state.heap m.setting
  pub works : Works k m.setting state.heap (others_of state) t.world work other
  pub sound : IsSound m.setting.classes t.world other

-- the same, of some state of a machine
pub record StandsAtWork (k : Known) (state : MachineState) (work : Work) : Type 0 where
  pub machine : Machine
  pub left : List Answer
  pub there : State Place
  pub other : calls.Work
  pub at : IsAtWork k machine state left there work other

-- where the work throws, the state is as it was
abbrev pub StaysAtThrow : Work → MachineState → MachineState → Type 0
StaysAtThrow (Throws x) old new = new ≡ old
StaysAtThrow work old new = Unit {0}

-- Whatever state of the machine it was, the step is what the machine makes of the work.
abbrev pub Finishes : Known → MachineState → MachineState → Step → Bool → Work → Type 0
Finishes k old new step super work =
    (m : Machine) (left : List Answer) (t : State Place) (f : Frame Place) (below : List (Frame Place)) (other : calls.Work) → IsAtWork k m old left t work other → t.frames ≡ f ∷ below
    → Stepped m new left step (moved (class_code m.files) m.setting.classes t.due (worked (class_code m.files) m.setting.classes f f.content t.world super other) t.world f below)
