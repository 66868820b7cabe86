-- What is observed of a run, as the class machine has it.
use Rattle.std.specs.Prelude.{map}
use Rattle.std.specs.Option.{option_map}
use Rattle.aj_names.specs.declared.types.MethodName.{MethodName}
use Rattle.class_file.specs.Pool.{Reference}
use Rattle.class_machine.specs.Classes.{reference}
use Rattle.class_machine.specs.Events as events
use Rattle.machine_values.specs.declared.observed.Shown.{Shown}
use Rattle.machine_values.specs.declared.observed.Shown.TheVariants as shown
use Rattle.machine_values.specs.declared.observed.Event.{Event}
use Rattle.machine_values.specs.declared.observed.Event.TheVariants as event
use Rattle.machine_values.specs.declared.observed.Ending.{Ending}
use Rattle.machine_values.specs.declared.observed.Ending.TheVariants as ending
use Rattle.machine_values.specs.declared.script.Answer.{Answer}
use Rattle.machine_values.specs.declared.script.Answer.TheVariants as answer
use Rattle.machine_values.specs.Types.{type_name}

abbrev pub machine_shown : Shown → events.Shown
machine_shown (shown.Int n) = events.Int n
machine_shown (shown.Long n) = events.Long n
machine_shown (shown.Float bits) = events.Float bits
machine_shown (shown.Double bits) = events.Double bits
machine_shown shown.Null = events.Null
machine_shown (shown.Text units) = events.Text units
machine_shown (shown.ClassObject class) = events.ClassObject (type_name class)
machine_shown (shown.Object class k) = events.Object class k
machine_shown (shown.Array class k) = events.Array (type_name class) k

abbrev pub method_reference : MethodName → Reference
method_reference m = reference m.class m.name m.descriptor

abbrev pub machine_event : Event → events.Event
machine_event (event.Print units) = events.Print units
machine_event (event.Native method values) = events.Native (method_reference method) (map machine_shown values)

abbrev pub machine_ending : Ending → events.Ending
machine_ending (ending.Returned value) = events.Returned (option_map machine_shown value)
machine_ending (ending.Uncaught class message) = events.Uncaught class message
machine_ending (ending.InitFailed class) = events.InitFailed class
machine_ending (ending.Exit status) = events.Exit status
machine_ending (ending.Unmodelled op) = events.Unmodelled op
machine_ending (ending.Unresolved name) = events.Unresolved name
machine_ending ending.ScriptEnds = events.ScriptEnds
machine_ending ending.Broken = events.Broken

abbrev pub machine_answer : Answer → events.Answer
machine_answer (answer.Int n) = events.Int n
machine_answer (answer.Long n) = events.Long n
machine_answer answer.Null = events.Null
machine_answer (answer.Text units) = events.Text units
machine_answer answer.Void = events.Void
machine_answer (answer.Throw class message) = events.Throw class message
