-- The arguments of an entry, as the class machine has them.
use Rattle.class_machine.specs.Start as starts
use Rattle.machine_values.specs.declared.script.EntryArg.{EntryArg}
use Rattle.machine_values.specs.declared.script.EntryArg.TheVariants as arg

abbrev pub entry_argument : EntryArg → starts.EntryArgument
entry_argument (arg.Int n) = starts.Int n
entry_argument (arg.Long n) = starts.Long n
entry_argument (arg.Text units) = starts.Text units
entry_argument (arg.Texts texts) = starts.Texts texts
entry_argument arg.Null = starts.Null
