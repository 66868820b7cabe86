-- How a run of classes ends, from how its steps ended.
use Rattle.std.proofs.Common.{◌≡◌, ℕ, ◌<◌, ◌≤◌, true, List, length, map, Option, Some, None, Result, Ok, Err, ap, sym, ◌∙◌, subst, arith}
use Rattle.std.specs.Prelude.{IfOk, IfSome}
use Rattle.std.specs.List.{find}
use Rattle.std.specs.Option.{option_map}
use Rattle.aj_outside.specs.Files.{Files, names_under}
use Rattle.boot_library.specs.Heads.{library_heads}
use Rattle.class_file.specs.declared.types.ClassFile.{ClassFile}
use Rattle.class_format.specs.declared.fault.ClassFault.{ClassFault}
use Rattle.class_heads.specs.declared.fault.WorldFault.{WorldFault}
use Rattle.class_heads.specs.Faults as world
use Rattle.class_machine.specs.Events.{Event, Ending}
use Rattle.class_machine.specs.Run.{class_observation}
use Rattle.jp_model.specs.Input.{IsFirst, is_big, is_class_file}
use Rattle.machine_start.specs.Arguments.{argument_of}
use Rattle.machine_values.specs.declared.script.Answer.{Answer}
use Rattle.machine_values.specs.Observed.{machine_answer, machine_event, machine_ending}
use Rattle.run_driver.specs.declared.report.Report.{Report}
use Rattle.run_lines.specs.CommandWords.{RunCommand}
use Rattle.run_plan.specs.Running.{world_of, AreSound, entry_method, RunsFrom}
use Rattle.weave_plan.specs.declared.planning.NamedFile.{NamedFile}
use Rattle.weave_plan.specs.Faults.{is_faulty, IsFirstFault}
use Rattle.weave_plan.specs.Plan.{files_of}
use Rattle.weave_plan.specs.Worlds.{classes_of}
use Rattle.ajweave.specs.declared.status.Refusal.{Refusal}
use Rattle.ajweave.specs.declared.status.Refusal.TheVariants.{ManyFiles, BigFile, NoScript, Script, Class, World, NotBuilt, NoEntry}
use Rattle.ajweave.specs.declared.stop.Stop.{Stop}
use Rattle.ajweave.specs.declared.stop.Stop.TheVariants as stop
use Rattle.ajweave.specs.declared.script.ScriptFile.{ScriptFile}
use Rattle.ajweave.specs.Answers.{most_names, in_folder}
use Rattle.ajweave.specs.Runs.{Seen, files_under, Refused, Ran, NotTaken, Answers, ReadsScript, ComesTo}
use Rattle.ajweave.specs.Steps.{OnStop, IsRefusal, most_bytes, IsBig, Settles, IsScriptFile, ReadsScriptFile, WereRead, IsClassRefusal, IsRunRefusal, RunEnds, EndsOfRead, seen_of}
use Rattle.ajweave.proofs.Cut.{cut, IsFirst-from_cut, whole-from_cut}
use Rattle.ajweave.proofs.Reading.{IsCut}
use Rattle.ajweave.proofs.Scripts.{reads_script}
use Rattle.ajweave.proofs.Settling.{settle_big, settle_script, settle_class, settle_world, settle_entry, settle_ran}

-- ---- a step that stopped

same_err : {T : Type 0} (a b : Stop) → a ≡ b → ◌≡◌ {A = Result T Stop} (Err a) (Err b)
same_err a b h = cc

-- what holds of how a step stopped holds where it is passed on
pub passed_on : {T : Type 0} (P : Result T Stop → Type 0) (r : Result T Stop) (fault told : Stop) → r ≡ Err fault → fault ≡ told → P (Err told) → P r
passed_on P r fault told is same h = subst P (sym (is ∙ same_err fault told same)) h

-- the run comes to this refusal alone
abbrev IsRefusedAlone : RunCommand → Files → Refusal → Type 0
IsRefusedAlone run files refusal = Settles (ComesTo run files) (Refused refusal)

refused_ends : (P : Refusal → Type 0) (run : RunCommand) (files : Files) (fault : Stop) → ((refusal : Refusal) → P refusal → IsRefusedAlone run files refusal) → IsRefusal P fault → RunEnds (Err fault) run (Some files)
refused_ends P run files stop.Read by h = absurd h
refused_ends P run files stop.Write by h = absurd h
refused_ends P run files (stop.Refused refusal) by h = by refusal h
refused_ends P run files stop.Memory by h = tt

-- ---- what was read

-- a list that is not too long, the first bytes of the files of its names, and what was found of the script
pub WereRead-from : (folder : List ℕ) (script : Option (List ℕ)) (held held_mid : Option Files) (inputs : List NamedFile) (file : ScriptFile) → held_mid ≡ held → IsCut is_class_file folder held inputs → IfSome held_mid (λ files. IsScriptFile script files file) → IfSome held (λ files. WereRead folder script files (files_of inputs) file)
WereRead-from folder script held held_mid inputs file same cut found =
    by held cut (subst (λ (h : Option Files). IfSome h (λ files. IsScriptFile script files file)) same found)
  where
    by : (held : Option Files) → IsCut is_class_file folder held inputs → IfSome held (λ files. IsScriptFile script files file) → IfSome held (λ files. WereRead folder script files (files_of inputs) file)
    by None c f = tt
    by (Some files) c f = record { few = c.0; cut = c.1; found = f }

-- ---- class files that are too long

big : 16777216 < most_bytes
big = omega arith

too_big : (run : RunCommand) (files inputs : Files) (file : ScriptFile) (refusal : Refusal) → WereRead run.input run.script files inputs file → IsBig run.input inputs refusal → IsRefusedAlone run files refusal
too_big run files inputs file ManyFiles w h = absurd h
too_big run files inputs file (BigFile name) w h =
    settle_big run files name w.few (IsFirst-from_cut most_bytes (files_under is_class_file run.input files) (in_folder run.input name) big (subst (λ (fs : Files). IsFirst is_big fs (in_folder run.input name)) w.cut h))
too_big run files inputs file (NoScript name) w h = absurd h
too_big run files inputs file (Script name line) w h = absurd h
too_big run files inputs file (Class name fault) w h = absurd h
too_big run files inputs file (World fault) w h = absurd h
too_big run files inputs file (NotBuilt name) w h = absurd h
too_big run files inputs file (NoEntry word) w h = absurd h

pub sizes_end : (run : RunCommand) (inputs : Files) (file : ScriptFile) (fault : Stop) → IsRefusal (IsBig run.input inputs) fault → EndsOfRead (Err fault) run inputs file
sizes_end run inputs file fault h files w = refused_ends (IsBig run.input inputs) run files fault (λ refusal. too_big run files inputs file refusal w) h

-- what was read are the class files, where none of their first bytes is too long
record IsWhole (run : RunCommand) (files inputs : Files) : Type 0 where
  pub small : find is_big (files_under is_class_file run.input files) ≡ None
  pub whole : inputs ≡ files_under is_class_file run.input files

whole_read : (run : RunCommand) (files inputs : Files) (file : ScriptFile) → WereRead run.input run.script files inputs file → find is_big inputs ≡ None → IsWhole run files inputs
whole_read run files inputs file w h =
    let all = files_under is_class_file run.input files in
    let small : find is_big (map (cut most_bytes) all) ≡ None = ap (find is_big) (sym w.cut) ∙ h in
    let whole = whole-from_cut most_bytes all big small in
    record { small = ap (find is_big) (sym whole) ∙ small; whole = w.cut ∙ whole }

-- ---- the script

script_refused : (run : RunCommand) (files inputs : Files) (file : ScriptFile) (refusal : Refusal) → find is_big inputs ≡ None → WereRead run.input run.script files inputs file → Settles (ReadsScriptFile file) (NotTaken refusal) → IsRefusedAlone run files refusal
script_refused run files inputs file refusal small w h =
    settle_script run files refusal w.few (whole_read run files inputs file w small).small (reads_script run.script files file (NotTaken refusal) w.found h)

pub script_ends : (run : RunCommand) (inputs : Files) (file : ScriptFile) (fault : Stop) → find is_big inputs ≡ None → IsRefusal (λ refusal. Settles (ReadsScriptFile file) (NotTaken refusal)) fault → EndsOfRead (Err fault) run inputs file
script_ends run inputs file fault small h files w =
    refused_ends (λ refusal. Settles (ReadsScriptFile file) (NotTaken refusal)) run files fault (λ refusal. script_refused run files inputs file refusal small w) h

-- ---- the class files

-- what was read is not too long, and the script has these answers alone
pub record IsTaken (inputs : Files) (file : ScriptFile) (answers : List Answer) : Type 0 where
  pub small : find is_big inputs ≡ None
  pub script : Settles (ReadsScriptFile file) (Answers answers)

first_fault : (run : RunCommand) (files inputs : Files) (file : ScriptFile) (answers : List Answer) (name : List ℕ) (fault : ClassFault) → IsTaken inputs file answers → WereRead run.input run.script files inputs file → IsFirstFault inputs (in_folder run.input name) fault → IsRefusedAlone run files (Class name fault)
first_fault run files inputs file answers name fault t w h =
    let i = whole_read run files inputs file w t.small in
    settle_class run files answers name fault w.few i.small (reads_script run.script files file (Answers answers) w.found t.script)
    (subst (λ (fs : Files). IsFirstFault fs (in_folder run.input name) fault) i.whole h)

no_class : (run : RunCommand) (files inputs : Files) (file : ScriptFile) (answers : List Answer) (refusal : Refusal) → IsTaken inputs file answers → WereRead run.input run.script files inputs file → IsClassRefusal run.input inputs refusal → IsRefusedAlone run files refusal
no_class run files inputs file answers ManyFiles t w h = absurd h
no_class run files inputs file answers (BigFile name) t w h = absurd h
no_class run files inputs file answers (NoScript name) t w h = absurd h
no_class run files inputs file answers (Script name line) t w h = absurd h
no_class run files inputs file answers (Class name fault) t w h = first_fault run files inputs file answers name fault t w h
no_class run files inputs file answers (World fault) t w h = absurd h
no_class run files inputs file answers (NotBuilt name) t w h = absurd h
no_class run files inputs file answers (NoEntry word) t w h = absurd h

pub classes_end : (run : RunCommand) (inputs : Files) (file : ScriptFile) (answers : List Answer) (fault : Stop) → IsTaken inputs file answers → IsRefusal (IsClassRefusal run.input inputs) fault → EndsOfRead (Err fault) run inputs file
classes_end run inputs file answers fault t h files w =
    refused_ends (IsClassRefusal run.input inputs) run files fault (λ refusal. no_class run files inputs file answers refusal t w) h

-- ---- the run

-- these are the classes of the folder, and the script has these answers alone
record IsLoaded (run : RunCommand) (files : Files) (classes : List ClassFile) (answers : List Answer) : Type 0 where
  pub few : length (names_under run.input files) ≤ most_names
  pub small : find is_big (files_under is_class_file run.input files) ≡ None
  pub script : Settles (ReadsScript run.script files) (Answers answers)
  pub read : find is_faulty (files_under is_class_file run.input files) ≡ None
  pub whole : classes ≡ classes_of (files_under is_class_file run.input files)

loaded : (run : RunCommand) (files inputs : Files) (file : ScriptFile) (classes : List ClassFile) (answers : List Answer) → IsTaken inputs file answers → classes ≡ classes_of inputs → find is_faulty inputs ≡ None → WereRead run.input run.script files inputs file → IsLoaded run files classes answers
loaded run files inputs file classes answers t same read w =
    let i = whole_read run files inputs file w t.small in
    record {
      few = w.few;
      small = i.small;
      script = reads_script run.script files file (Answers answers) w.found t.script;
      read = ap (find is_faulty) (sym i.whole) ∙ read;
      whole = same ∙ ap classes_of i.whole;
    }

no_world : (run : RunCommand) (files : Files) (classes : List ClassFile) (answers : List Answer) (fault : WorldFault) → IsLoaded run files classes answers → world.IsFirstFault classes library_heads true fault → IsRefusedAlone run files (World fault)
no_world run files classes answers fault l h =
    settle_world run files answers fault l.few l.small l.script l.read (subst (λ (cs : List ClassFile). world.IsFirstFault cs library_heads true fault) l.whole h)

no_method : (run : RunCommand) (files : Files) (classes : List ClassFile) (answers : List Answer) → IsLoaded run files classes answers → AreSound classes × (entry_method (world_of classes) run.entry ≡ None) → IsRefusedAlone run files (NoEntry run.word)
no_method run files classes answers l h =
    let there : AreSound (classes_of (files_under is_class_file run.input files)) × (entry_method (world_of (classes_of (files_under is_class_file run.input files))) run.entry ≡ None) =
    subst (λ (cs : List ClassFile). AreSound cs × (entry_method (world_of cs) run.entry ≡ None)) l.whole h in
    settle_entry run files answers l.few l.small l.script l.read there.0 there.1

run_refused : (run : RunCommand) (files : Files) (classes : List ClassFile) (answers : List Answer) (refusal : Refusal) → IsLoaded run files classes answers → IsRunRefusal classes run.entry run.word refusal → IsRefusedAlone run files refusal
run_refused run files classes answers ManyFiles l h = absurd h
run_refused run files classes answers (BigFile name) l h = absurd h
run_refused run files classes answers (NoScript name) l h = absurd h
run_refused run files classes answers (Script name line) l h = absurd h
run_refused run files classes answers (Class name fault) l h = absurd h
run_refused run files classes answers (World fault) l h = no_world run files classes answers fault l h
run_refused run files classes answers (NotBuilt name) l h = absurd h
run_refused run files classes answers (NoEntry word) l h =
    subst (λ (w : List ℕ). IsRefusedAlone run files (NoEntry w)) (sym h.0) (no_method run files classes answers l h.1)

abbrev seen_so : List Event → Option Ending → Seen
seen_so events ending = record { events = events; ending = ending }

same_seen : (seen : Seen) (events : List Event) (ending : Option Ending) → events ≡ seen.events → ending ≡ seen.ending → seen_so events ending ≡ seen
same_seen seen events ending e f = λ i. record { events = e i; ending = f i }

ran : (run : RunCommand) (files : Files) (classes : List ClassFile) (answers : List Answer) (report : Report) → IsLoaded run files classes answers → RunsFrom classes run.entry answers run.steps report → RunEnds (Ok report) run (Some files)
ran run files classes answers report l h =
    let r : RunsFrom (classes_of (files_under is_class_file run.input files)) run.entry answers run.steps report =
    subst (λ (cs : List ClassFile). RunsFrom cs run.entry answers run.steps report) l.whole h in
    let seen : Seen = class_observation (classes_of (files_under is_class_file run.input files)) (map machine_answer answers) r.method (map argument_of run.entry.args) run.steps in
    let same : seen_of report ≡ seen = same_seen seen (map machine_event report.events.items) (option_map machine_ending report.ending) r.reports.events r.reports.ending in
    subst (λ (s : Seen). Settles (ComesTo run files) (Ran s)) (sym same)
    (settle_ran run files answers l.few l.small l.script l.read r.sound r.method r.found)

pub run_ends : (run : RunCommand) (inputs : Files) (file : ScriptFile) (classes : List ClassFile) (answers : List Answer) (ended : Result Report Stop) → IsTaken inputs file answers → classes ≡ classes_of inputs → find is_faulty inputs ≡ None → IfOk ended (RunsFrom classes run.entry answers run.steps) → OnStop ended (IsRefusal (IsRunRefusal classes run.entry run.word)) → EndsOfRead ended run inputs file
run_ends run inputs file classes answers (Ok report) t same read whole stopped files w =
    ran run files classes answers report (loaded run files inputs file classes answers t same read w) whole
run_ends run inputs file classes answers (Err fault) t same read whole stopped files w =
    refused_ends (IsRunRefusal classes run.entry run.word) run files fault
    (λ refusal. run_refused run files classes answers refusal (loaded run files inputs file classes answers t same read w)) stopped
