-- Which instructions are the core's, and what it makes of one.
use Rattle.std.specs.Prelude.{◌≡◌, Bool, true, false, not, List}
use Rattle.class_file.specs.declared.pool.PoolEntry.{PoolEntry}
use Rattle.class_world.specs.Tables.{Known}
use Rattle.class_machine.specs.declared.kinds.Access.{Access}
use Rattle.class_machine.specs.ClassFiles.{Place}
use Rattle.class_machine.specs.Machine.{State}
use Rattle.machine_code.specs.declared.operation.Operation as code
use Rattle.machine_code.specs.declared.operation.Operation.TheVariants as form
use Rattle.machine_values.specs.declared.script.Answer.{Answer}
use Rattle.machine_values.specs.declared.state.MachineState.{MachineState}
use Rattle.machine_steps.specs.declared.step.Step.{Step}
use Rattle.machine_steps.specs.Parts.{Part, is_part, part_of}
use Rattle.machine_steps.specs.Programs.{Machine, IsMachine}
use Rattle.machine_steps.specs.Runs.{Runs}
use Rattle.machine_basics.specs.Performed.{is_return}
use Rattle.machine_parts.specs.Lines.{TakesForm}

abbrev pub is_of_object : Access → Bool
is_of_object Access.GetField = true
is_of_object Access.PutField = true
is_of_object Access.GetStatic = false
is_of_object Access.PutStatic = false

-- all but returns, calls, and what may initialise a class
abbrev pub is_core_form : code.Operation → Bool
is_core_form (form.Do basic) = not (is_return basic)
is_core_form (form.FieldAccess access index) = is_of_object access
is_core_form (form.Invoke mode index) = false
is_core_form (form.New index) = false
is_core_form _ = true

-- the core's instruction is executed without an answer of the script, and any other one is left
abbrev pub TakesCore : Known → MachineState → MachineState → Step → List PoolEntry → code.Operation → Type 0
TakesCore k old new step pool form = (left : List Answer) → TakesForm Part.Core k old new left left step pool form

-- whatever state of the machine the state stands for, the core takes its step
abbrev pub IsOwn : Known → MachineState → Type 0
IsOwn k state = (m : Machine) (left : List Answer) (t : State Place) → IsMachine k m → Runs m state left t → is_part (part_of m t) Part.Core ≡ true
