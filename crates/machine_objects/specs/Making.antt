-- Replies that are new references.
use Rattle.std.specs.Prelude.{◌≡◌, List}
use Rattle.class_world.specs.Tables.{Known}
use Rattle.class_machine.specs.Answers as answers
use Rattle.class_machine.specs.ClassFiles.{Place}
use Rattle.class_machine.specs.Machine.{State}
use Rattle.class_machine.specs.Values as machine
use Rattle.class_machine.specs.World.{World}
use Rattle.machine_frames.specs.Named.{content_of}
use Rattle.machine_values.specs.declared.script.Answer.{Answer}
use Rattle.machine_values.specs.declared.state.MachineState.{MachineState}
use Rattle.machine_values.specs.declared.values.Value.{Value}
use Rattle.machine_requests.specs.declared.reply.Reply.{Reply}
use Rattle.machine_requests.specs.Objects.{AreFilled}
use Rattle.machine_requests.specs.Replies.{Replies, IsLonger}
use Rattle.machine_requests.specs.Shares.{others_of}
use Rattle.machine_steps.specs.declared.step.Step.{Step}
use Rattle.machine_steps.specs.Giving.{naming_of}
use Rattle.machine_steps.specs.Programs.{Machine, IsMachine}
use Rattle.machine_steps.specs.Running.{seen_by, waiting}
use Rattle.machine_steps.specs.Runs.{Runs, Stepped}
use Rattle.machine_objects.specs.Taking.{IsTakenFrom}
use Rattle.machine_objects.specs.Following.{front_of, replied_step}

-- Whatever state of the machine the values were taken from: where the machine gives a reference, and the heap stands for what it
-- gives, the step is what the machine makes of that.
abbrev pub FollowsNew : Known → MachineState → MachineState → Step → Reply → List Value → Type 0
FollowsNew k mid new step reply vs =
    (m : Machine) (left : List Answer) (t : State Place) (old : MachineState) (a : machine.Name) (w : World) (from : IsTakenFrom vs old mid) → IsMachine k m → Runs m old left t
    → mid ≡ record old { frames = mid.frames; heap = mid.heap } → IsLonger old.heap mid.heap → Replies m.setting mid.heap (others_of mid) t.world reply (answers.Gives (machine.Reference a) w) → AreFilled mid.heap m.setting
    → w.answers ≡ t.world.answers
    → Stepped m new left step (replied_step m t.due t.world (seen_by m old.heap.names from.frame) (content_of (naming_of m old) from.left) (waiting m old.heap.names (front_of old)) (answers.Gives (machine.Reference a) w))
