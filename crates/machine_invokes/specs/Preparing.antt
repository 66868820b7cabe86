-- What an invocation comes to: the step is done, or a method is to run.
use Rattle.std.specs.Prelude.{◌≡◌, ◌&&◌, if◌then◌else◌, not, true, false, Bool, List, ◌∷◌, map, length, Option, Some, None, refl}
use Rattle.std.proofs.Common.{sym, ◌∙◌, ap, subst}
use Rattle.std.specs.List.{AllByRecursion}
use Rattle.std.specs.Option.{option_map}
use Rattle.class_file.specs.Pool.{Reference}
use Rattle.class_world.specs.Tables.{Known}
use Rattle.class_machine.specs.declared.kinds.Mode.{Mode}
use Rattle.class_machine.specs.Classes.{Method, is_constructor}
use Rattle.class_machine.specs.ClassFiles.{Place, class_code}
use Rattle.class_machine.specs.Events.{Event, Ending}
use Rattle.class_machine.specs.Machine as machines
use Rattle.class_machine.specs.Machine.{State, moved}
use Rattle.class_machine.specs.Operations.{Invoke}
use Rattle.class_machine.specs.Turn.{Frame, frame_at, Turn, Stays, Completes, Enters, Leaves, Begins, Raises, Finishes, runs, is_frameless, has_result_room}
use Rattle.class_machine.specs.Values.{Content}
use Rattle.class_machine.specs.World.{World}
use Rattle.machine_values.specs.declared.frames.Purpose.{Purpose}
use Rattle.machine_values.specs.declared.frames.Purpose.TheVariants.{Ordinary, Constructs}
use Rattle.machine_values.specs.declared.script.Answer.{Answer}
use Rattle.machine_values.specs.declared.state.MachineState.{MachineState}
use Rattle.machine_values.specs.declared.values.Ref.{Ref}
use Rattle.machine_values.specs.declared.values.Value.{Value}
use Rattle.machine_values.specs.Standing.{name_of, held, Settled}
use Rattle.machine_values.specs.States.{machine_purpose, is_known_object, is_known_purpose}
use Rattle.machine_steps.specs.declared.step.Step.{Step}
use Rattle.machine_steps.specs.Executing.{executes, MovesOver}
use Rattle.machine_steps.specs.Moves.{Turning, Moves}
use Rattle.machine_steps.specs.Programs.{Machine, IsMachine}
use Rattle.machine_steps.specs.Runs.{Runs, Stepped}
use Rattle.machine_invocations.specs.Methods.{Sees}
use Rattle.machine_invokes.specs.declared.invocation.Invocation.{Invocation}
use Rattle.machine_invokes.specs.declared.invocation.Prepared.{Prepared}
use Rattle.machine_invokes.specs.declared.invocation.Prepared.TheVariants.{Done, Runs as IsToRun}
use Rattle.machine_invokes.specs.Undoing.{CanUndo}

-- the method runs, which the reference names, with the receiver and the arguments as they are named in that state
abbrev pub runs_with : Reference → Method → Option Ref → List Value → Purpose → MachineState → Turning
runs_with r callee receiver given purpose state m t f =
    runs (class_code m.files) m.setting.classes (machine_purpose m.setting.heads m.methods state.heap.names purpose) f f.content t.world r callee
    (option_map (name_of m.setting.heads state.heap.names) receiver) (map (held m.setting.heads state.heap.names) given)

abbrev pub runs_call : Reference → Method → Invocation → MachineState → Turning
runs_call r callee call state = runs_with r callee call.receiver call.arguments.items call.purpose state

-- The new state stands for the machine's with what the call leaves in the running frame f, and with a world in which the method
-- is to run; what the machine makes of the instruction is what running the method there makes of it.
pub record ReadyIn (m : Machine) (new : MachineState) (left : List Answer) (t : State Place) (f : Frame Place) (below : List (Frame Place)) (turn : Turn Place) (turning : Turning) : Type 0 where
  pub content : Content Place
  pub world : World
  pub runs : Runs m new left (record { frames = frame_at f f.place content ∷ below; world = world; due = t.due })
  pub same : turn ≡ turning m (record { frames = frame_at f f.place content ∷ below; world = world; due = t.due }) (frame_at f f.place content)

-- the method is to run
pub record Prepares (k : Known) (old new : MachineState) (mode : Mode) (r : Reference) (call : Invocation) : Type 0 where
  pub callee : Method
  pub sees : Sees k call.method.0 callee
  pub receiver : is_known_object (length new.heap.names) call.receiver ≡ true
  pub purpose : is_known_purpose (length new.heap.names) call.purpose ≡ true
  pub arguments : AllByRecursion (Settled (length new.heap.names)) call.arguments.items
  -- where it has no frame, there is room for its result
  pub room : (m : Machine) (left : List Answer) (t : State Place) (f : Frame Place) (below : List (Frame Place)) → IsMachine k m → Runs m new left t → t.frames ≡ f ∷ below
      → (is_frameless callee && not (has_result_room (class_code m.files) m.setting.classes f f.content callee)) ≡ false
  pub ready : (m : Machine) (left : List Answer) (t : State Place) (f : Frame Place) (below : List (Frame Place)) → IsMachine k m → Runs m old left t → t.frames ≡ f ∷ below
      → ReadyIn m new left t f below (executes (Invoke mode r) m t f) (runs_call r callee call new)

abbrev pub Readies : Known → MachineState → MachineState → Mode → Reference → Prepared → Type 0
Readies k old new mode r (Done step) = Moves k old new step (executes (Invoke mode r))
Readies k old new mode r (IsToRun call) = Prepares k old new mode r call × CanUndo old new call

-- the instructions that call methods of objects
abbrev pub calls_on : Mode → Option Bool
calls_on Mode.Static = None
calls_on Mode.Special = Some true
calls_on Mode.Virtual = Some false
calls_on Mode.Interface = Some false

abbrev pub ReadiesOn : Known → MachineState → MachineState → Bool → Reference → Prepared → Type 0
ReadiesOn k old new special r prepared = (mode : Mode) → calls_on mode ≡ Some special → Readies k old new mode r prepared

-- a this or super call of a constructor, or another call
abbrev pub purpose_for : Bool → Reference → Purpose
purpose_for special r = if special && is_constructor r then Constructs else Ordinary

-- ---- what follows for one that runs the method

-- What the frame held and the world before don't matter: no initialisers come first, and no event ends the run.
abbrev pub is_own : Turn Place → Bool
is_own (Begins frames w) = false
is_own (Finishes (Some event) ending) = false
is_own _ = true

same_end : (m : Machine) (due : machines.Due) (o : Option Event) (ending : Ending) (w w' : World) (f g : Frame Place) (below : List (Frame Place)) → is_own (Finishes o ending) ≡ true
    → moved (class_code m.files) m.setting.classes due (Finishes o ending) w g below ≡ moved (class_code m.files) m.setting.classes due (Finishes o ending) w' f below
same_end m due None ending w w' f g below own = refl
same_end m due (Some event) ending w w' f g below own = absurd (let e : false ≡ true = own in cc)

pub own_same : (m : Machine) (due : machines.Due) (turn : Turn Place) (w w' : World) (f : Frame Place) (c : Content Place) (below : List (Frame Place)) → is_own turn ≡ true
    → moved (class_code m.files) m.setting.classes due turn w (frame_at f f.place c) below ≡ moved (class_code m.files) m.setting.classes due turn w' f below
own_same m due (Stays place d v) w w' f c below own = refl
own_same m due (Completes said super place d v) w w' f c below own = refl
own_same m due (Enters callee d v) w w' f c below own = refl
own_same m due (Leaves result v) w w' f c below own = refl
own_same m due (Begins frames v) w w' f c below own = absurd (let e : false ≡ true = own in cc)
own_same m due (Raises said x d v) w w' f c below own = refl
own_same m due (Finishes said ending) w w' f c below own = same_end m due said ending w w' f (frame_at f f.place c) below own

-- what runs the method on the new state executes the instruction on the old one
pub prepared_moves : (k : Known) (old mid new : MachineState) (before after : List Answer) (step : Step) (mode : Mode) (r : Reference) (call : Invocation) (prepares : Prepares k old mid mode r call)
    → ((m : Machine) (t : State Place) (f : Frame Place) (below : List (Frame Place)) → IsMachine k m → Runs m mid before t → t.frames ≡ f ∷ below → is_own (runs_call r prepares.callee call mid m t f) ≡ true)
    → MovesOver k mid new before after step (runs_call r prepares.callee call mid) → MovesOver k old new before after step (executes (Invoke mode r))
prepared_moves k old mid new before after step mode r call prepares own moves m t f below is runs top =
    let ready = prepares.ready m before t f below is runs top in
    let g = frame_at f f.place ready.content in
    let t' : State Place = record { frames = g ∷ below; world = ready.world; due = t.due } in
    let turn = runs_call r prepares.callee call mid m t' g in
    subst (Stepped m new after step)
    (own_same m t.due turn ready.world t.world f ready.content below (own m t' g below is ready.runs refl)
    ∙ ap (λ (x : Turn Place). moved (class_code m.files) m.setting.classes t.due x t.world f below) (sym ready.same))
    (moves m t' g below is ready.runs refl)
