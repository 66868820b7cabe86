-- The class machine on a list of class files, with the library beside them.
use Rattle.std.specs.Prelude.{ℕ, List, map, length, Option}
use Rattle.event_machine.specs.Observation.{Observation, observed}
use Rattle.class_file.specs.declared.types.ClassFile.{ClassFile}
use Rattle.class_file.specs.Pool.{NamedType}
use Rattle.class_heads.specs.declared.types.ClassHead.{ClassHead}
use Rattle.class_heads.specs.Heads.{head_of}
use Rattle.class_machine.specs.Events.{Event, Ending, Answer}
use Rattle.class_machine.specs.Classes.{Method, Classes}
use Rattle.class_machine.specs.Declarations as run
use Rattle.class_machine.specs.ClassFiles.{Place, class_code, field_constant}
use Rattle.class_machine.specs.Machine.{State, Step, step}
use Rattle.class_machine.specs.Start.{EntryArgument, start}

module _ (files : List ClassFile) where
  abbrev pub file_heads : List ClassHead
  file_heads = run.run_heads (map head_of files)

  abbrev pub class_table : Classes
  class_table = run.classes_of file_heads (length files) (field_constant files)

  -- the method that a class declares
  abbrev pub declared_method : NamedType → List ℕ → Option Method
  declared_method member class = run.declared_method file_heads (length files) (field_constant files) member class

  abbrev pub class_step : State Place → Step (State Place)
  class_step = step (class_code files) class_table

  -- the first state of a run of a static method
  abbrev pub class_start : List Answer → Method → List EntryArgument → State Place
  class_start = start (class_code files) class_table

  -- what is observed of it within n steps
  abbrev pub class_observation : List Answer → Method → List EntryArgument → ℕ → Observation Event Ending
  class_observation answers m words n = observed class_step n (class_start answers m words)
