-- What becomes of the running frame behind its instruction.
use Rattle.std.specs.Prelude.{◌≡◌, ℕ, ◌-◌, ◌+◌, ◌<◌, Bool, true, false, nat_le, if◌then◌else◌, List, ◌∷◌, ◌++◌, [], take, length}
use Rattle.class_world.specs.Tables.{Known}
use Rattle.class_machine.specs.Answers as answers
use Rattle.class_machine.specs.ClassFiles.{Place, place_in, class_code}
use Rattle.class_machine.specs.Events as events
use Rattle.class_machine.specs.Machine as machines
use Rattle.class_machine.specs.Machine.{State, moved}
use Rattle.class_machine.specs.Turn as turns
use Rattle.class_machine.specs.Turn.{stays, stops, replied}
use Rattle.class_machine.specs.Values.{Held, held_width, Plain, Content, pushed_on, has_room}
use Rattle.class_machine.specs.World.{World}
use Rattle.machine_frames.specs.Named.{content_of}
use Rattle.machine_values.specs.declared.frames.Frame.{Frame}
use Rattle.machine_values.specs.declared.script.Answer.{Answer}
use Rattle.machine_values.specs.declared.state.MachineState.{MachineState}
use Rattle.machine_values.specs.declared.values.Value.{Value}
use Rattle.machine_values.specs.Stacks.{weight}
use Rattle.machine_requests.specs.declared.reply.Reply.{Reply}
use Rattle.machine_requests.specs.Objects.{AreFilled}
use Rattle.machine_requests.specs.Replies.{Replies, IsLonger}
use Rattle.machine_requests.specs.Shares.{others_of}
use Rattle.machine_steps.specs.declared.step.Step.{Step}
use Rattle.machine_steps.specs.Giving.{naming_of}
use Rattle.machine_steps.specs.Moves.{Turning}
use Rattle.machine_steps.specs.Programs.{Machine, IsMachine}
use Rattle.machine_steps.specs.Running.{seen_by, waiting}
use Rattle.machine_steps.specs.Runs.{Runs, Stepped}
use Rattle.machine_objects.specs.Taking.{IsTakenFrom}

-- ---- on behind the instruction

-- the place behind the running frame's instruction
abbrev pub TellsNext : Known → MachineState → ℕ → Type 0
TellsNext k state pc =
    (m : Machine) (left : List Answer) (t : State Place) (f : turns.Frame Place) (below : List (turns.Frame Place)) → IsMachine k m → Runs m state left t → t.frames ≡ f ∷ below
    → (class_code m.files).next f.place ≡ place_in f.method pc

-- with what the frame holds
abbrev pub goes_next : Turning
goes_next m t f = stays (class_code m.files) m.setting.classes ((class_code m.files).next f.place) f.content t.world

-- with the value on top, where there is room
abbrev pub goes_next_with : (Machine → State Place → Held) → Turning
goes_next_with value m t f =
    if has_room f.room (held_width (value m t)) f.content.operands
    then stays (class_code m.files) m.setting.classes ((class_code m.files).next f.place) (pushed_on (Plain (value m t)) f.content) t.world else stops events.Broken

-- ---- room

-- the frame has room for a reference
abbrev pub has_space : Frame → Bool
has_space f = nat_le (1 + weight f.operands.values) f.operands.room

pub record HasRoom (state : MachineState) : Type 0 where
  pub some : 0 < length state.frames.items
  pub room : (rest : List Frame) (f : Frame) → state.frames.items ≡ rest ++ f ∷ [] → has_space f ≡ true

abbrev pub LacksRoom : MachineState → Type 0
LacksRoom state = (rest : List Frame) (f : Frame) → state.frames.items ≡ rest ++ f ∷ [] → has_space f ≡ false

-- ---- replies

-- what the machine makes of its reply in the frame, which holds this then
abbrev pub replied_step : (m : Machine) (due : machines.Due) (w : World) (f : turns.Frame Place) (c : Content Place) (below : List (turns.Frame Place)) → answers.Reply → machines.Step (State Place)
replied_step m due w f c below reply = moved (class_code m.files) m.setting.classes due (replied (class_code m.files) m.setting.classes f c w reply) w f below

-- the reply leaves the answers of the script
abbrev pub keeps_answers : World → answers.Reply → Type 0
keeps_answers w (answers.Gives h after) = after.answers ≡ w.answers
keeps_answers w (answers.Done after) = after.answers ≡ w.answers
keeps_answers w reply = Unit {0}

pub record KeepsAnswers (w : World) (reply : answers.Reply) : Type 0 where
  pub kept : keeps_answers w reply

-- the values were taken from the running frame of some state
pub record IsLacking (vs : List Value) (state : MachineState) : Type 0 where
  pub before : MachineState
  pub from : IsTakenFrom vs before state

-- the frames below the running one
abbrev pub front_of : MachineState → List Frame
front_of state = take (length state.frames.items - 1) state.frames.items

-- Whatever state of the machine the values were taken from: where the heap stands for what the machine replies, the step is
-- what the machine makes of the reply.
abbrev pub Follows : Known → MachineState → MachineState → Step → Reply → List Value → Type 0
Follows k mid new step reply vs =
    (m : Machine) (left : List Answer) (t : State Place) (old : MachineState) (seen : answers.Reply) (from : IsTakenFrom vs old mid) → IsMachine k m → Runs m old left t
    → mid ≡ record old { frames = mid.frames; heap = mid.heap } → IsLonger old.heap mid.heap → Replies m.setting mid.heap (others_of mid) t.world reply seen → AreFilled mid.heap m.setting → KeepsAnswers t.world seen
    → Stepped m new left step (replied_step m t.due t.world (seen_by m old.heap.names from.frame) (content_of (naming_of m old) from.left) (waiting m old.heap.names (front_of old)) seen)
