-- The step of a state without frames.
use Rattle.std.specs.Prelude.{◌≡◌, ℕ, List, []}
use Rattle.std.specs.Option.{option_map}
use Rattle.class_world.specs.Tables.{Known}
use Rattle.class_machine.specs.Classes.{Method}
use Rattle.class_machine.specs.ClassFiles.{Place}
use Rattle.class_machine.specs.Events as events
use Rattle.class_machine.specs.Machine.{State, answered}
use Rattle.class_machine.specs.Natives.{respond}
use Rattle.class_machine.specs.Values.{class_of}
use Rattle.class_machine.specs.World.{World, shown, message_of}
use Rattle.machine_values.specs.declared.observed.Ending.{Ending}
use Rattle.machine_values.specs.declared.observed.Ending.TheVariants.{Broken}
use Rattle.machine_values.specs.declared.observed.Event.{Event}
use Rattle.machine_values.specs.declared.script.Answer.{Answer}
use Rattle.machine_values.specs.declared.state.Due.{Due}
use Rattle.machine_values.specs.declared.state.Due.TheVariants.{Finally}
use Rattle.machine_values.specs.declared.state.MachineState.{MachineState}
use Rattle.machine_values.specs.Observed.{machine_ending, machine_event}
use Rattle.machine_values.specs.Standing.{name_of}
use Rattle.machine_steps.specs.declared.step.Step.{Step}
use Rattle.machine_steps.specs.Programs.{Machine, IsMachine}
use Rattle.machine_steps.specs.Runs.{Runs, Stepped}
use Rattle.machine_invocations.specs.Methods.{Sees}
use Rattle.machine_invocations.specs.Invoked.{step_of}
use Rattle.machine_invocations.specs.Returning.{result_held}
use Rattle.machine_natives.specs.declared.response.Response.{Response}
use Rattle.machine_natives.specs.declared.response.Response.TheVariants.{Returns, Throws, Lacks}

-- the ending that is due; where none is, that of a Broken run
abbrev pub ending_in : Due → Ending
ending_in (Finally ending) = ending
ending_in due = Broken

-- the ending that the machine comes to with the response, in a world of it
abbrev pub ending_of : Machine → MachineState → World → Response → events.Ending
ending_of m state w (Returns v) = events.Returned (option_map (shown w) (result_held m state v))
ending_of m state w (Throws x) = events.Uncaught (class_of (name_of m.setting.heads state.heap.names x)) (message_of w (name_of m.setting.heads state.heap.names x))
ending_of m state w Lacks = events.ScriptEnds

abbrev pub EndsWith : Known → MachineState → Response → Ending → Type 0
EndsWith k state response ending = (m : Machine) (left : List Answer) (t : State Place) → IsMachine k m → Runs m state left t → machine_ending ending ≡ ending_of m state t.world response

-- whatever state of the machine without frames it was, the step is that of a native entry which the script answers
abbrev pub Answers : Known → MachineState → MachineState → List Answer → List Answer → ℕ → Event → Step → Type 0
Answers k old new before after number event step =
    (m : Machine) (t : State Place) (callee : Method) → IsMachine k m → Sees k number callee → Runs m old before t → t.frames ≡ []
    → Stepped m new after step (answered t.world (machine_event event) (respond m.setting.classes t.world callee.name))

-- whatever state of the machine without frames the old one stood for, the step is the machine's
abbrev pub Closes : Known → MachineState → MachineState → List Answer → List Answer → Step → Type 0
Closes k old new before after step = (m : Machine) (t : State Place) → IsMachine k m → Runs m old before t → t.frames ≡ [] → Stepped m new after step (step_of m t)
