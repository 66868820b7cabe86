-- What the steps of a run promise one another.
use Rattle.std.specs.Prelude.{◌≡◌, ℕ, ◌<◌, ◌≤◌, ◌⊎◌, Bool, List, [], length, map, take, Option, Some, None, Result, Ok, Err, IfSome}
use Rattle.std.specs.Option.{option_map, unwrap_or}
use Rattle.aj_outside.specs.Files.{Files, AreFiles, file_at, names_under}
use Rattle.class_file.specs.declared.types.ClassFile.{ClassFile}
use Rattle.jp_model.specs.Input.{IsFirst, is_big, is_input, is_class_file}
use Rattle.machine_values.specs.Observed.{machine_event, machine_ending}
use Rattle.run_driver.specs.declared.report.Report.{Report}
use Rattle.run_lines.specs.CommandWords.{RunCommand}
use Rattle.run_lines.specs.declared.command.RunWords.{RunWords}
use Rattle.run_lines.specs.declared.entry.EntryWords.{EntryWords}
use Rattle.run_plan.specs.Running as plan
use Rattle.run_plan.specs.declared.fault.RunFault.TheVariants as faults
use Rattle.weave_plan.specs.Faults.{IsFirstFault, HaveFirstFault, IsFirstUnbuilt}
use Rattle.aj_outside.specs.declared.shelves.ShelfFault.{ShelfFault}
use Rattle.aj_outside.specs.declared.shelves.ShelfFault.TheVariants as shelf_fault
use Rattle.ajweave.specs.declared.stop.Stop.{Stop}
use Rattle.ajweave.specs.declared.stop.Stop.TheVariants as stop
use Rattle.ajweave.specs.declared.status.Refusal.{Refusal}
use Rattle.ajweave.specs.declared.status.Refusal.TheVariants.{ManyFiles, BigFile, NoScript, Class, World, NotBuilt, NoEntry}
use Rattle.ajweave.specs.declared.status.Status.{Status}
use Rattle.ajweave.specs.declared.status.Status.TheVariants as status
use Rattle.ajweave.specs.declared.input.Kept.{Kept}
use Rattle.ajweave.specs.declared.input.Kept.TheVariants as kept
use Rattle.ajweave.specs.declared.script.ScriptFile.{ScriptFile}
use Rattle.ajweave.specs.declared.script.ScriptFile.TheVariants as scripts
use Rattle.ajweave.specs.Words.{Folders, refusal_line}
use Rattle.ajweave.specs.Answers.{most_names, in_folder, IsRefused, IsOfWeaving, IsValid, WritesWeaving, CommandedTo, CommandedSome, PutsSome, PrintsFor}
use Rattle.ajweave.specs.Runs.{Seen, files_under, Refused, Ran, ScriptRead, NotTaken, Answers, ReadsFile, ComesTo, answer_of_ending, seen_text, IsOfRunning, MayFollow}

-- ---- why a step stopped

-- P of the refusal, and one of the others where a step stopped in another way
abbrev pub MatchStop : Stop → (Refusal → Type 0) → (read write memory : Type 0) → Type 0
MatchStop stop.Read P read write memory = read
MatchStop stop.Write P read write memory = write
MatchStop (stop.Refused refusal) P read write memory = P refusal
MatchStop stop.Memory P read write memory = memory

-- a step that stopped did so as P says
abbrev pub OnStop : {T : Type 0} → Result T Stop → (Stop → Type 0) → Type 0
OnStop (Ok x) P = Unit {0}
OnStop (Err fault) P = P fault

-- it stopped for want of memory, or at a refusal of which P holds
abbrev pub IsRefusal : (Refusal → Type 0) → Stop → Type 0
IsRefusal P fault = MatchStop fault P ⊥ ⊥ (Unit {0})

-- the refusal is this one of the file, without its folder
abbrev pub IsNamed : (List ℕ → Refusal) → List ℕ → List ℕ → Refusal → Type 0
IsNamed of folder name refusal = (rest : List ℕ) × (name ≡ in_folder folder rest) × (refusal ≡ of rest)

-- it stopped for want of memory or because the shelf failed to read
abbrev pub IsReadStop : Stop → Type 0
IsReadStop fault = MatchStop fault (λ refusal. ⊥) (Unit {0}) ⊥ (Unit {0})

-- it stopped for want of memory or because the shelf failed to write
abbrev pub IsWriteStop : Stop → Type 0
IsWriteStop fault = MatchStop fault (λ refusal. ⊥) ⊥ (Unit {0}) (Unit {0})

-- it stopped for another reason than a failed write
abbrev pub IsNoWriteStop : (Refusal → Type 0) → Stop → Type 0
IsNoWriteStop P fault = MatchStop fault P (Unit {0}) ⊥ (Unit {0})

-- ---- reading

-- why a step stopped that listed or read
abbrev pub stop_of_read : ShelfFault → Stop
stop_of_read shelf_fault.Failed = stop.Read
stop_of_read shelf_fault.NoSuchFile = stop.Read
stop_of_read shelf_fault.Memory = stop.Memory

-- how many bytes of a file are read at most: one more than a file that is built may have
abbrev pub most_bytes : ℕ
most_bytes = 16777217

-- the names are all that there are under the folder, and not too many
pub record AreListed (folder : List ℕ) (files : Files) (names : List (List ℕ)) : Type 0 where
  pub all : names ≡ names_under folder files
  pub few : length (names_under folder files) ≤ most_names
  pub ordered : AreFiles files

-- there are too many names
abbrev pub IsMany : ℕ → Refusal → Type 0
IsMany count refusal = (refusal ≡ ManyFiles) × (most_names < count)

-- the first bytes of a file, with its name
abbrev pub cut_file : List ℕ × List ℕ → List ℕ × List ℕ
cut_file f = (f.0, take most_bytes f.1)

-- the first bytes of the file of a name
abbrev pub cut_at : Files → List ℕ → List ℕ × List ℕ
cut_at files name = (name, take most_bytes (unwrap_or (file_at files name) []))

-- the refusal is that of the first input that is too long, by its first bytes
abbrev pub IsBig : List ℕ → Files → Refusal → Type 0
IsBig folder inputs (BigFile name) = IsFirst is_big inputs (in_folder folder name)
IsBig folder inputs _ = ⊥

-- which of the files under a folder are read: those of classes and of aspects, or those of classes alone
abbrev pub keeps : Kept → List ℕ → Bool
keeps kept.Inputs = is_input
keeps kept.Classes = is_class_file

-- ---- planning

-- the refusal is that of these inputs, none of which is too long
abbrev pub IsInputRefusal : List ℕ → Files → Refusal → Type 0
IsInputRefusal folder inputs (Class name fault) = IsFirstFault inputs (in_folder folder name) fault
IsInputRefusal folder inputs (World fault) = HaveFirstFault inputs fault
IsInputRefusal folder inputs (NotBuilt name) = IsFirstUnbuilt inputs (in_folder folder name)
IsInputRefusal folder inputs _ = ⊥

-- it stopped at a refusal that a weaving has, or in another way
abbrev pub IsWeavingStop : Stop → Type 0
IsWeavingStop fault = MatchStop fault IsOfWeaving (Unit {0}) (Unit {0}) (Unit {0})

-- ---- the ends of a run, but for what is printed

-- What the shelf holds after weaving, by how it ended.
abbrev pub Ends : Result (Unit {0}) Stop → Folders → Option Files → Option Files → Type 0
Ends (Ok x) folders before after =
    CommandedTo (Some folders) before after WritesWeaving × IfSome before (λ files. IsValid folders.input files)
Ends (Err fault) folders before after =
    MatchStop fault (λ refusal. (after ≡ before) × IfSome before (λ files. IsRefused folders.input files refusal))
    (after ≡ before) (CommandedSome (Some folders) before after × IfSome before (λ files. IsValid folders.input files))
    ((after ≡ before) ⊎ CommandedSome (Some folders) before after)

-- some first files of these were put, where it is told
abbrev pub PutsSomeTold : Files → Option Files → Option Files → Type 0
PutsSomeTold outputs None after = after ≡ None
PutsSomeTold outputs (Some before) after = PutsSome outputs before after

-- ---- what is printed

-- The answer to why a command stopped, and what was printed.
abbrev pub ReportsStop : Stop → Status → Option (List ℕ) → Option (List ℕ) → Type 0
ReportsStop fault result before now =
    MatchStop fault (λ refusal. PrintsFor (status.Refused refusal) (refusal_line refusal) result before now)
    ((result ≡ status.ReadFault) × (now ≡ before)) ((result ≡ status.WriteFault) × (now ≡ before))
    ((result ≡ status.OutOfMemory) × (now ≡ before))

-- The answer to how a command ended, and what was printed.
abbrev pub Reports : Result (Unit {0}) Stop → Status → Option (List ℕ) → Option (List ℕ) → Type 0
Reports (Ok x) result before now = (result ≡ status.Done) × (now ≡ before)
Reports (Err fault) result before now = ReportsStop fault result before now

-- ---- a run of classes

-- the relation holds of this and of no other
pub record Settles {T : Type 0} (P : T → Type 0) (x : T) : Type 0 where
  pub holds : P x
  pub only : (other : T) → P other → other ≡ x

-- the run that the words of the command say
abbrev pub run_of : RunWords → RunCommand
run_of words = record {
  input = words.input.now;
  word = words.word.now;
  entry = words.entry;
  steps = words.steps;
  script = option_map (λ name. name.now) words.script;
}

-- what is observed, as a report has it
abbrev pub seen_of : Report → Seen
seen_of report = record { events = map machine_event report.events.items; ending = option_map machine_ending report.ending }

-- what is known of the file of a script: none is named, there is none of the name, or these are its first bytes
abbrev pub IsScriptFile : Option (List ℕ) → Files → ScriptFile → Type 0
IsScriptFile script files scripts.Unnamed = script ≡ None
IsScriptFile script files (scripts.Missing name) = (script ≡ Some name) × (file_at files name ≡ None)
IsScriptFile script files (scripts.Found file) =
    (script ≡ Some file.name) × ((bytes : List ℕ) × (file_at files file.name ≡ Some bytes) × (file.bytes.items ≡ take most_bytes bytes))

-- what was found is of the script that is named, on any shelf
abbrev pub IsOfScript : Option (List ℕ) → ScriptFile → Type 0
IsOfScript script scripts.Unnamed = script ≡ None
IsOfScript script (scripts.Missing name) = script ≡ Some name
IsOfScript script (scripts.Found file) = script ≡ Some file.name

-- a script is named, and the shelf has no file of its name
abbrev pub IsMissingFile : ScriptFile → Type 0
IsMissingFile (scripts.Missing name) = Unit {0}
IsMissingFile _ = ⊥

abbrev pub IsMissing : Result ScriptFile Stop → Type 0
IsMissing (Ok file) = IsMissingFile file
IsMissing (Err fault) = ⊥

-- all was read, but there is no file of the script's name
abbrev pub FindsNoScript : {A : Type 0} → Result (A × ScriptFile) Stop → Type 0
FindsNoScript (Ok found) = IsMissingFile found.1
FindsNoScript (Err fault) = ⊥

-- What was read are the first bytes of the class files under the folder, of which there are not too many, and of the script.
pub record WereRead (folder : List ℕ) (script : Option (List ℕ)) (files inputs : Files) (file : ScriptFile) : Type 0 where
  pub few : length (names_under folder files) ≤ most_names
  pub cut : inputs ≡ map cut_file (files_under is_class_file folder files)
  pub found : IsScriptFile script files file

-- what such a file is read as
abbrev pub ReadsScriptFile : ScriptFile → ScriptRead → Type 0
ReadsScriptFile scripts.Unnamed read = read ≡ Answers []
ReadsScriptFile (scripts.Missing name) read = read ≡ NotTaken (NoScript name)
ReadsScriptFile (scripts.Found file) read = ReadsFile file.name file.bytes.items read

-- the refusal is that of the first class file that is none
abbrev pub IsClassRefusal : List ℕ → Files → Refusal → Type 0
IsClassRefusal folder inputs (Class name fault) = IsFirstFault inputs (in_folder folder name) fault
IsClassRefusal folder inputs _ = ⊥

-- the refusal is that of the classes as a world, or that of an entry that no method takes
abbrev pub IsRunRefusal : List ClassFile → EntryWords → List ℕ → Refusal → Type 0
IsRunRefusal classes entry word (World fault) = plan.IsRefused classes entry (faults.World fault)
IsRunRefusal classes entry word (NoEntry name) = (name ≡ word) × plan.IsRefused classes entry faults.NoEntry
IsRunRefusal classes entry word _ = ⊥

-- What the command comes to, by how it ended: where the files are told, this is the one thing that it comes to of them.
abbrev pub RunEnds : Result Report Stop → RunCommand → Option Files → Type 0
RunEnds (Ok report) run held = IfSome held (λ files. Settles (ComesTo run files) (Ran (seen_of report)))
RunEnds (Err fault) run held =
    MatchStop fault (λ refusal. IfSome held (λ files. Settles (ComesTo run files) (Refused refusal))) (Unit {0}) ⊥ (Unit {0})

-- whatever the files are of which this was read, the command ends so
abbrev pub EndsOfRead : Result Report Stop → RunCommand → Files → ScriptFile → Type 0
EndsOfRead result run inputs file = (files : Files) → WereRead run.input run.script files inputs file → RunEnds result run (Some files)

-- it stopped at a refusal that a run has, or in another way
abbrev pub IsRunStop : Stop → Type 0
IsRunStop fault = MatchStop fault IsOfRunning (Unit {0}) (Unit {0}) (Unit {0})

-- it ended at the script of this name, whose file is missing
abbrev pub IsNoScript : List ℕ → Result Report Stop → Type 0
IsNoScript name result = result ≡ Err (stop.Refused (NoScript name))

-- a run with a script ended in a way that it may where the file of that alone is missing
pub record EndsMissing (script : Option (List ℕ)) (result : Result Report Stop) : Type 0 where
  pub name : List ℕ
  pub named : script ≡ Some name
  pub ends : ((refusal : Refusal) × MayFollow name refusal × (result ≡ Err (stop.Refused refusal))) ⊎ (result ≡ Err stop.Memory)

-- The answer to how a run ended, and what was printed.
abbrev pub ReportsRun : Result Report Stop → Status → Option (List ℕ) → Option (List ℕ) → Type 0
ReportsRun (Ok report) result before now =
    PrintsFor (answer_of_ending (option_map machine_ending report.ending)) (seen_text (seen_of report)) result before now
ReportsRun (Err fault) result before now = ReportsStop fault result before now
