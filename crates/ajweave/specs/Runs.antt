-- What a run of the class files of a folder comes to, and what it answers and prints.
use Rattle.std.specs.Prelude.{◌≡◌, ℕ, ◌<◌, ◌≤◌, ◌⊎◌, ◌&&◌, Bool, MatchBool, MatchOption, IfSome, true, List, [], ◌++◌, length, map, codes, Option, Some, None}
use Rattle.std.specs.List.{filter, find, flat_map}
use Rattle.aj_outside.specs.Files.{Files, file_at, is_under, names_under}
use Rattle.boot_library.specs.Heads.{library_heads}
use Rattle.class_file.specs.declared.types.ClassFile.{ClassFile}
use Rattle.class_format.specs.declared.fault.ClassFault.{ClassFault}
use Rattle.class_heads.specs.declared.fault.WorldFault.{WorldFault}
use Rattle.class_heads.specs.Faults as world
use Rattle.class_machine.specs.Events.{Event, Ending, Returned, Uncaught, InitFailed, Exit, Unmodelled, Unresolved, ScriptEnds, Broken}
use Rattle.class_machine.specs.Lines.{event_text, ending_text}
use Rattle.class_machine.specs.Run.{class_observation}
use Rattle.event_machine.specs.Observation.{Observation}
use Rattle.jp_model.specs.Input.{IsFirst, is_big, is_class_file}
use Rattle.machine_values.specs.declared.script.Answer.{Answer}
use Rattle.machine_values.specs.Observed.{machine_answer}
use Rattle.machine_start.specs.Arguments.{argument_of}
use Rattle.run_lines.specs.CommandWords.{RunCommand, AreRunWords}
use Rattle.run_lines.specs.Printing.{line_of}
use Rattle.run_lines.specs.ScriptLines.{LinesTo, IsOtherLine}
use Rattle.run_plan.specs.Running.{world_of, AreSound, entry_method}
use Rattle.weave_plan.specs.Faults.{is_faulty, IsFirstFault}
use Rattle.weave_plan.specs.Worlds.{classes_of}
use Rattle.ajweave.specs.declared.status.Refusal.{Refusal}
use Rattle.ajweave.specs.declared.status.Refusal.TheVariants as refusals
use Rattle.ajweave.specs.declared.status.Status.{Status}
use Rattle.ajweave.specs.declared.status.Status.TheVariants as status
use Rattle.ajweave.specs.Words.{command_of, refusal_line}
use Rattle.ajweave.specs.Answers.{most_names, in_folder, Commanded, IsRefused, IsOfWeaving, PrintsFor}

-- the files under a folder whose names pass the test, in byte order of the names
abbrev pub files_under : (List ℕ → Bool) → List ℕ → Files → Files
files_under test folder files = filter (λ f. is_under folder f.0 && test f.0) files

-- what is observed of a run: its events, and its ending, where it has come to one
abbrev pub Seen : Type 0
Seen = Observation Event Ending

-- what a run comes to: its input is refused, or this is observed of it
pub data Outcome : Type 0 where
  Refused : (refusal : Refusal) → Outcome
  Ran : (seen : Seen) → Outcome

-- ---- the script

-- what is read of a script: it is refused, or these are its answers
pub data ScriptRead : Type 0 where
  NotTaken : (refusal : Refusal) → ScriptRead
  Answers : (answers : List Answer) → ScriptRead

-- of the bytes of its file: the first line of another form, or the answer of each line
abbrev pub ReadsLines : List ℕ → List ℕ → ScriptRead → Type 0
ReadsLines name bytes (NotTaken refusal) = (line : ℕ) × IsOtherLine bytes line × (refusal ≡ refusals.Script name line)
ReadsLines name bytes (Answers answers) = LinesTo answers bytes []

-- that the file is too long comes before
abbrev pub ReadsFile : List ℕ → List ℕ → ScriptRead → Type 0
ReadsFile name bytes read = MatchBool (is_big (name, bytes)) (read ≡ NotTaken (refusals.BigFile name)) (ReadsLines name bytes read)

-- Where no script is named there are no answers. One that is named is held, or refused.
abbrev pub ReadsScript : Option (List ℕ) → Files → ScriptRead → Type 0
ReadsScript None files read = read ≡ Answers []
ReadsScript (Some name) files read =
    MatchOption (file_at files name) (read ≡ NotTaken (refusals.NoScript name)) (λ bytes. ReadsFile name bytes read)

-- ---- what it comes to

-- A method takes the entry, and the machine runs the classes from it within the steps; or none takes it.
abbrev pub RunsFrom : RunCommand → List ClassFile → List Answer → Outcome → Type 0
RunsFrom run classes answers outcome =
    MatchOption (entry_method (world_of classes) run.entry) (outcome ≡ Refused (refusals.NoEntry run.word))
    (λ method. outcome ≡ Ran (class_observation classes (map machine_answer answers) method (map argument_of run.entry.args) run.steps))

-- The first fault of the world of the classes comes before; reserved names are none.
abbrev pub RunsClasses : RunCommand → List ClassFile → List Answer → Outcome → Type 0
RunsClasses run classes answers outcome =
    ((fault : WorldFault) × world.IsFirstFault classes library_heads true fault × (outcome ≡ Refused (refusals.World fault)))
    ⊎ (AreSound classes × RunsFrom run classes answers outcome)

-- The first of the files that is no class file comes before, with its first fault.
abbrev pub RunsFiles : RunCommand → Files → List Answer → Outcome → Type 0
RunsFiles run inputs answers outcome =
    ((name : List ℕ) × (fault : ClassFault) × IsFirstFault inputs (in_folder run.input name) fault × (outcome ≡ Refused (refusals.Class name fault)))
    ⊎ ((find is_faulty inputs ≡ None) × RunsClasses run (classes_of inputs) answers outcome)

abbrev pub RunsAnswered : RunCommand → Files → ScriptRead → Outcome → Type 0
RunsAnswered run inputs (NotTaken refusal) outcome = outcome ≡ Refused refusal
RunsAnswered run inputs (Answers answers) outcome = RunsFiles run inputs answers outcome

-- The first of the files that is too long comes before, and then what is wrong with the script.
abbrev pub RunsRead : RunCommand → Files → Files → Outcome → Type 0
RunsRead run files inputs outcome =
    ((name : List ℕ) × IsFirst is_big inputs (in_folder run.input name) × (outcome ≡ Refused (refusals.BigFile name)))
    ⊎ ((find is_big inputs ≡ None) × ((read : ScriptRead) × ReadsScript run.script files read × RunsAnswered run inputs read outcome))

-- What a run comes to of these files: of what is wrong the first counts, and that too many files are listed comes first. The class
-- files under the folder alone are its input, in byte order of their names.
abbrev pub ComesTo : RunCommand → Files → Outcome → Type 0
ComesTo run files outcome =
    ((most_names < length (names_under run.input files)) × (outcome ≡ Refused refusals.ManyFiles))
    ⊎ ((length (names_under run.input files) ≤ most_names) × RunsRead run files (files_under is_class_file run.input files) outcome)

-- ---- what it answers and prints

-- the answer by how the run ended
abbrev pub answer_of_ending : Option Ending → Status
answer_of_ending None = status.StepsSpent
answer_of_ending (Some (Returned value)) = status.Returned
answer_of_ending (Some (Uncaught class message)) = status.Uncaught
answer_of_ending (Some (InitFailed class)) = status.InitFailed
answer_of_ending (Some (Exit number)) = status.Exit
answer_of_ending (Some (Unmodelled op)) = status.Unmodelled
answer_of_ending (Some (Unresolved name)) = status.Unresolved
answer_of_ending (Some Broken) = status.Broken
answer_of_ending (Some ScriptEnds) = status.ScriptEnds

abbrev pub answer_of : Outcome → Status
answer_of (Refused refusal) = status.Refused refusal
answer_of (Ran seen) = answer_of_ending seen.ending

-- the last line: that of the ending, or that the steps were spent before there was one
abbrev pub last_line : Option Ending → List ℕ
last_line None = line_of (codes "steps-spent")
last_line (Some ending) = line_of (ending_text ending)

-- the lines of the events, the oldest first, and the last line
abbrev pub seen_text : Seen → List ℕ
seen_text seen = flat_map (λ event. line_of (event_text event)) seen.events ++ last_line seen.ending

abbrev pub text_of : Outcome → List ℕ
text_of (Refused refusal) = refusal_line refusal
text_of (Ran seen) = seen_text seen

-- The answer is that of what the run comes to, and its text is printed, but where the print fails or memory runs out some first bytes
-- of it alone; or a read failed or memory ran out, and nothing is printed.
abbrev pub AnswersRun : RunCommand → Option Files → Status → Option (List ℕ) → Option (List ℕ) → Type 0
AnswersRun run held result before now =
    ((outcome : Outcome) × IfSome held (λ files. ComesTo run files outcome) × PrintsFor (answer_of outcome) (text_of outcome) result before now)
    ⊎ (((result ≡ status.ReadFault) ⊎ (result ≡ status.OutOfMemory)) × (now ≡ before))

-- ---- which command the words say

-- the words say a run, and P holds of it and, where they are told, of the files
abbrev pub SaysRun : List (List ℕ) → Option Files → (RunCommand → Files → Type 0) → Type 0
SaysRun words held P = (run : RunCommand) × AreRunWords words run × IfSome held (P run)

-- the words say no run
abbrev pub SayNoRun : List (List ℕ) → Type 0
SayNoRun words = (run : RunCommand) → ¬ (AreRunWords words run)

-- the words are no command that is built
pub record AreNoCommand (words : List (List ℕ)) : Type 0 where
  pub no_weaving : command_of words ≡ None
  pub no_run : SayNoRun words

-- the words say a run with a script of this name
pub record NamesScript (words : List (List ℕ)) (name : List ℕ) : Type 0 where
  pub run : RunCommand
  pub says : AreRunWords words run
  pub named : run.script ≡ Some name

-- ---- when each answer comes

-- it is one of the refusals that a run has
abbrev pub IsOfRunning : Refusal → Type 0
IsOfRunning refusals.ManyFiles = Unit {0}
IsOfRunning (refusals.BigFile name) = Unit {0}
IsOfRunning (refusals.NoScript name) = Unit {0}
IsOfRunning (refusals.Script name line) = Unit {0}
IsOfRunning (refusals.Class name fault) = Unit {0}
IsOfRunning (refusals.World fault) = Unit {0}
IsOfRunning (refusals.NoEntry word) = Unit {0}
IsOfRunning _ = ⊥

-- The input is refused so: that of a weaving, by a refusal that a weaving has, or that of a run, by one that a run has.
abbrev pub RefusesInput : List (List ℕ) → Option Files → Refusal → Type 0
RefusesInput words held refusal =
    (Commanded (command_of words) held (λ folders files. IsRefused folders.input files refusal) × IsOfWeaving refusal)
    ⊎ (SaysRun words held (λ run files. ComesTo run files (Refused refusal)) × IsOfRunning refusal)

-- the answer is that of a run that was observed
abbrev pub IsOfRun : Status → Type 0
IsOfRun status.Returned = Unit {0}
IsOfRun status.Uncaught = Unit {0}
IsOfRun status.InitFailed = Unit {0}
IsOfRun status.Exit = Unit {0}
IsOfRun status.Unmodelled = Unit {0}
IsOfRun status.Unresolved = Unit {0}
IsOfRun status.Broken = Unit {0}
IsOfRun status.StepsSpent = Unit {0}
IsOfRun status.ScriptEnds = Unit {0}
IsOfRun _ = ⊥

-- the run comes to an observation whose answer this is
abbrev pub IsObserved : Status → RunCommand → Files → Type 0
IsObserved result run files = (seen : Seen) × (result ≡ answer_of_ending seen.ending) × ComesTo run files (Ran seen)

-- the refusals that may follow where the file of the script of this name is missing: a class file that is too long is told first
abbrev pub MayFollow : List ℕ → Refusal → Type 0
MayFollow name (refusals.BigFile other) = Unit {0}
MayFollow name (refusals.NoScript other) = other ≡ name
MayFollow name _ = ⊥

-- What is answered and printed of a run with a script where, on a shelf that doesn't tell, a file was missing that was not listed: it
-- is that of the script. A class file that is too long is told first, and memory may run out before there is a line to print.
pub record FollowsMissing (words : List (List ℕ)) (result : Status) (before now : Option (List ℕ)) : Type 0 where
  pub run : RunCommand
  pub says : AreRunWords words run
  pub name : List ℕ
  pub named : run.script ≡ Some name
  pub answers :
      ((refusal : Refusal) × MayFollow name refusal × PrintsFor (status.Refused refusal) (refusal_line refusal) result before now)
      ⊎ ((result ≡ status.OutOfMemory) × (now ≡ before))
