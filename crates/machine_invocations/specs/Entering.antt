-- The frame of a call, and its monitor (JVMS 3.6, 3.11.11).
use Rattle.std.specs.Prelude.{◌≡◌, ℕ, ◌+◌, ◌-◌, ◌++◌, true, false, if◌then◌else◌, List, [], ◌∷◌, map, replicate, length, take, slice_set, Option, Some, None}
use Rattle.std.specs.Option.{option_map}
use Rattle.aj_names.specs.declared.ids.MethodId.{MethodId}
use Rattle.class_file.specs.Pool.{Reference}
use Rattle.class_world.specs.Tables.{Known}
use Rattle.class_machine.specs.Classes.{Method}
use Rattle.class_machine.specs.ClassFiles.{class_code}
use Rattle.class_machine.specs.Turn.{lock_of, entering, enters}
use Rattle.class_machine.specs.World.{World}
use Rattle.machine_code.specs.declared.method_code.MethodEntry.{MethodEntry}
use Rattle.machine_values.specs.declared.frames.Frame.{Frame}
use Rattle.machine_values.specs.declared.frames.Purpose.{Purpose}
use Rattle.machine_values.specs.declared.state.MachineState.{MachineState}
use Rattle.machine_values.specs.declared.values.Local.{Local}
use Rattle.machine_values.specs.declared.values.Local.TheVariants.{Unset, Holds, Second}
use Rattle.machine_values.specs.declared.values.Ref.{Ref}
use Rattle.machine_values.specs.declared.values.Value.{Value}
use Rattle.machine_values.specs.Stacks.{is_wide, weight}
use Rattle.machine_values.specs.Standing.{name_of, held}
use Rattle.machine_values.specs.States.{machine_purpose, is_known_object}
use Rattle.machine_values.specs.Things.{Things}
use Rattle.machine_requests.specs.Monitors.{with_monitors}
use Rattle.machine_requests.specs.Objects.{AreFilled}
use Rattle.machine_requests.specs.Replies.{IsLonger}
use Rattle.machine_requests.specs.Shares.{Others, Shares}
use Rattle.machine_steps.specs.Programs.{Machine, IsMachine}
use Rattle.machine_steps.specs.Moves.{Turning}

-- ---- arguments as locals

-- a long or a double takes two
abbrev pub value_locals : List Value → List Local
value_locals [] = []
value_locals (v ∷ vs) = if is_wide v then Holds v ∷ Second ∷ value_locals vs else Holds v ∷ value_locals vs

-- the others unset
abbrev pub filled_with : ℕ → List Value → List Local
filled_with count given = value_locals given ++ replicate (count - weight given) Unset

abbrev pub with_argument : ℕ → Value → List Local → List Local
with_argument at v ls = if is_wide v then slice_set (slice_set ls at (Holds v)) (at + 1) Second else slice_set ls at (Holds v)

-- ---- monitors

-- what the machine has once the monitor of a call is entered, in one of its worlds
pub record LockedIn (m : Machine) (heap heap' : Things) (monitors' : List ℕ) (others : Others) (w : World) (callee : Method) (receiver monitor : Option Ref) : Type 0 where
  pub shares : Shares m.setting heap' (with_monitors others monitors') (entering (lock_of callee (option_map (name_of m.setting.heads heap.names) receiver)) w)
  pub named : option_map (name_of m.setting.heads heap'.names) monitor ≡ lock_of callee (option_map (name_of m.setting.heads heap.names) receiver)
  pub filled : AreFilled heap m.setting → AreFilled heap' m.setting

-- the monitor of a call of the method is entered
pub record Locks (k : Known) (heap : Things) (monitors : List ℕ) (heap' : Things) (monitors' : List ℕ) (callee : Method) (receiver monitor : Option Ref) : Type 0 where
  pub known : is_known_object (length heap'.names) monitor ≡ true
  pub there : (m : Machine) (others : Others) (w : World) → IsMachine k m → others.monitors ≡ monitors → Shares m.setting heap others w → LockedIn m heap heap' monitors' others w callee receiver monitor

-- the object whose monitor is that of a call
pub record HasLock (m : Machine) (heap heap' : Things) (others : Others) (w : World) (callee : Method) (receiver : Option Ref) (at : Ref) : Type 0 where
  pub shares : Shares m.setting heap' others w
  pub filled : AreFilled heap m.setting → AreFilled heap' m.setting
  pub named : callee.is_synchronized ≡ true → lock_of callee (option_map (name_of m.setting.heads heap.names) receiver) ≡ option_map (name_of m.setting.heads heap'.names) (Some at)

abbrev pub FindsLock : Known → Things → Things → Method → Option Ref → Ref → Type 0
FindsLock k heap heap' callee receiver at =
    (m : Machine) (others : Others) (w : World) → IsMachine k m → Shares m.setting heap others w → HasLock m heap heap' others w callee receiver at

-- whatever world of the machine they stood for, they stand for it still
pub record LocksNothing (k : Known) (heap : Things) (monitors : List ℕ) (heap' : Things) (monitors' : List ℕ) : Type 0 where
  pub shares : (m : Machine) (others : Others) (w : World) → IsMachine k m → others.monitors ≡ monitors → Shares m.setting heap others w → Shares m.setting heap' (with_monitors others monitors') w
  pub filled : (m : Machine) (others : Others) (w : World) → IsMachine k m → Shares m.setting heap others w → AreFilled heap m.setting → AreFilled heap' m.setting

-- objects may have been added, and those that were there are as they were
pub record AddsOnly (before after : Things) : Type 0 where
  pub names : take (length before.names) after.names ≡ before.names
  pub contents : take (length before.contents) after.contents ≡ before.contents

-- the frame of a call as it begins, but for its monitor
abbrev pub beginning : MethodId → MethodEntry → List Value → Purpose → Frame
beginning method entry given purpose = record {
  method = method;
  pc = 0;
  operands = record { room = entry.room; values = [] };
  locals = filled_with entry.locals given;
  monitor = None;
  constructed = false;
  purpose = purpose;
}

-- the frame is on top, its monitor entered
pub record PushesCall (k : Known) (old new : MachineState) (callee : Method) (receiver : Option Ref) (frame : Frame) : Type 0 where
  pub monitor : Option Ref
  pub frames : new.frames.items ≡ old.frames.items ++ record frame { monitor = monitor } ∷ []
  pub locks : Locks k old.heap old.monitors new.heap new.monitors callee receiver monitor
  pub names : IsLonger old.heap new.heap
  pub rest : new ≡ record old { frames = new.frames; heap = new.heap; monitors = new.monitors }

-- ---- the turn

-- into the method's code, which the reference names
abbrev pub enters_with : Reference → Method → Option Ref → List Value → Purpose → MachineState → Turning
enters_with r callee receiver given purpose old m t f =
    enters (class_code m.files) m.setting.classes (machine_purpose m.setting.heads m.methods old.heap.names purpose) f.content t.world r callee
    (option_map (name_of m.setting.heads old.heap.names) receiver) (map (held m.setting.heads old.heap.names) given) ((class_code m.files).method callee.name)
