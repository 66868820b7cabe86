-- What running class files comes to.
use Rattle.std.specs.Prelude.{◌≡◌, ℕ, true, List, map, Option, Some, None}
use Rattle.boot_library.specs.Heads.{library_heads}
use Rattle.class_file.specs.declared.types.ClassFile.{ClassFile}
use Rattle.class_heads.specs.Faults as world
use Rattle.class_machine.specs.Classes.{Method}
use Rattle.class_machine.specs.Run.{class_observation}
use Rattle.class_world.specs.Tables.{Known}
use Rattle.machine_invocations.specs.Methods.{Sees}
use Rattle.machine_start.specs.Arguments.{argument_of}
use Rattle.machine_start.specs.Entries.{entry_of}
use Rattle.machine_steps.specs.Runs.{IsMethod}
use Rattle.machine_values.specs.declared.script.Answer.{Answer}
use Rattle.machine_values.specs.declared.script.Entry.{Entry}
use Rattle.machine_values.specs.Observed.{machine_answer}
use Rattle.run_driver.specs.declared.report.Report.{Report}
use Rattle.run_driver.specs.Reports.{Reports}
use Rattle.run_lines.specs.declared.entry.EntryWords.{EntryWords}
use Rattle.run_plan.specs.declared.fault.RunFault.{RunFault}
use Rattle.run_plan.specs.declared.fault.RunFault.TheVariants.{World, NoEntry, Memory}

-- the classes, beside the library
abbrev pub world_of : List ClassFile → Known
world_of classes = record { heads = world.world_heads classes library_heads true; files = classes }

-- the classes have no fault as a world; reserved names are none
abbrev pub AreSound : List ClassFile → Type 0
AreSound classes = world.IsSound classes library_heads true

-- the method at which a run begins that is told so
abbrev pub entry_method : Known → EntryWords → Option Method
entry_method k words = entry_of k words.class words.method (map argument_of words.args)

-- The run of a method with these answers to native calls, within so many steps.
pub record RunsFrom (classes : List ClassFile) (words : EntryWords) (answers : List Answer) (steps : ℕ) (report : Report) : Type 0 where
  pub sound : AreSound classes
  pub method : Method
  pub found : entry_method (world_of classes) words ≡ Some method
  pub reports : Reports (class_observation classes (map machine_answer answers) method (map argument_of words.args)) steps report

-- the classes' first fault as a world, or else that no method takes the entry; nothing is known where memory ran out
abbrev pub IsRefused : List ClassFile → EntryWords → RunFault → Type 0
IsRefused classes words (World fault) = world.IsFirstFault classes library_heads true fault
IsRefused classes words NoEntry = AreSound classes × (entry_method (world_of classes) words ≡ None)
IsRefused classes words Memory = Unit {0}

-- the fault is that of the classes, unless memory ran out
abbrev pub IsFaultOf : List ClassFile → RunFault → Type 0
IsFaultOf classes (World fault) = world.IsFirstFault classes library_heads true fault
IsFaultOf classes NoEntry = ⊥
IsFaultOf classes Memory = Unit {0}

-- the entry's method, and the arguments of the words
pub record IsEntry (k : Known) (words : EntryWords) (entry : Entry) : Type 0 where
  pub there : IsMethod k entry.method.0
  pub args : entry.args ≡ words.args
  pub method : Method
  pub sees : Sees k entry.method.0 method
  pub found : entry_method k words ≡ Some method

abbrev pub FindsEntry : Known → EntryWords → Option Entry → Type 0
FindsEntry k words None = entry_method k words ≡ None
FindsEntry k words (Some entry) = IsEntry k words entry
