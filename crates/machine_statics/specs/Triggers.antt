-- Instructions that need a class initialised (JVMS 2.17.4, 5.5), and what is made of their effect then.
use Rattle.std.specs.Prelude.{◌≡◌, List, ◌∷◌}
use Rattle.class_world.specs.Tables.{Known}
use Rattle.class_machine.specs.ClassFiles.{Place, class_code}
use Rattle.class_machine.specs.Effect.{Effect}
use Rattle.class_machine.specs.Machine.{State}
use Rattle.class_machine.specs.Operations.{Operation}
use Rattle.class_machine.specs.Turn.{Frame, effect_at, taken}
use Rattle.machine_values.specs.declared.script.Answer.{Answer}
use Rattle.machine_values.specs.declared.state.MachineState.{MachineState}
use Rattle.machine_steps.specs.declared.step.Step.{Step}
use Rattle.machine_steps.specs.Moves.{Turning, moved_by}
use Rattle.machine_steps.specs.Programs.{Machine, IsMachine}
use Rattle.machine_steps.specs.Runs.{Runs, Stepped}

-- the effect of the instruction on the frame
abbrev pub effect_of : Operation → Machine → Frame Place → Effect Place
effect_of operation m f = effect_at (class_code m.files) m.setting.classes f operation

-- the effect is taken, once nothing is to be initialised
abbrev pub takes : Operation → Turning
takes operation m t f = taken (class_code m.files) m.setting.classes f t.world (effect_of operation m f)

-- the step is what the machine makes of the turn, where the machine and its running frame are such
abbrev pub MovesWhere : Known → (Machine → Frame Place → Type 0) → MachineState → MachineState → Step → Turning → Type 0
MovesWhere k Holds old new step turning =
    (m : Machine) (left : List Answer) (t : State Place) (f : Frame Place) (below : List (Frame Place)) → IsMachine k m → Runs m old left t → t.frames ≡ f ∷ below → Holds m f
    → Stepped m new left step (moved_by turning m t f below)
