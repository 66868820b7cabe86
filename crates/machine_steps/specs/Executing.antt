-- What becomes of a state whose running frame executes an instruction.
use Rattle.std.specs.Prelude.{◌≡◌, List, ◌∷◌, Some}
use Rattle.class_world.specs.Tables.{Known}
use Rattle.class_machine.specs.ClassFiles.{Place, class_code}
use Rattle.class_machine.specs.Machine.{State}
use Rattle.class_machine.specs.Operations.{Operation}
use Rattle.class_machine.specs.Turn.{Frame, executed}
use Rattle.machine_values.specs.declared.script.Answer.{Answer}
use Rattle.machine_values.specs.declared.state.MachineState.{MachineState}
use Rattle.machine_steps.specs.declared.step.Step.{Step}
use Rattle.machine_steps.specs.Moves.{Turning, moved_by}
use Rattle.machine_steps.specs.Programs.{Machine, IsMachine}
use Rattle.machine_steps.specs.Runs.{Runs, Stepped}

-- the instruction at the running frame's place
abbrev pub executes : Operation → Turning
executes operation m t f = executed (class_code m.files) m.setting.classes f t.world (Some operation)

-- Whatever state of the machine with a running frame the old one stood for with the answers that were left, the new one and
-- the answers that are left then stand for what the machine makes of that turn.
abbrev pub MovesOver : Known → MachineState → MachineState → List Answer → List Answer → Step → Turning → Type 0
MovesOver k old new before after step turning =
    (m : Machine) (t : State Place) (f : Frame Place) (below : List (Frame Place)) → IsMachine k m → Runs m old before t → t.frames ≡ f ∷ below
    → Stepped m new after step (moved_by turning m t f below)
