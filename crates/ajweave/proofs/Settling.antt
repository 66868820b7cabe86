-- A run of class files comes to one thing alone.
use Rattle.std.proofs.Common.{◌≡◌, ℕ, ◌<◌, ◌≤◌, ◌⊎◌, inl, inr, true, Bool, List, length, map, Option, Some, None, Result, Err, refl, ap, sym, ◌∙◌, subst, arith}
use Rattle.std.specs.Prelude.{MatchOption}
use Rattle.std.specs.List.{find}
use Rattle.std.proofs.lemmas.Option.{none-some, same_Some}
use Rattle.aj_outside.specs.Files.{Files, names_under}
use Rattle.boot_library.specs.Heads.{library_heads}
use Rattle.class_file.specs.declared.types.ClassFile.{ClassFile}
use Rattle.class_format.specs.declared.fault.ClassFault.{ClassFault}
use Rattle.class_format.specs.Reading.{reading}
use Rattle.class_heads.specs.declared.fault.WorldFault.{WorldFault}
use Rattle.class_heads.specs.FaultLaws.{sound_has_none}
use Rattle.class_heads.specs.Faults as world
use Rattle.class_heads.specs.FirstLaws.{first_fault_same}
use Rattle.class_machine.specs.Classes.{Method}
use Rattle.class_machine.specs.Run.{class_observation}
use Rattle.jp_model.specs.Input.{IsFirst, is_big, is_class_file}
use Rattle.machine_start.specs.Arguments.{argument_of}
use Rattle.machine_values.specs.declared.script.Answer.{Answer}
use Rattle.machine_values.specs.Observed.{machine_answer}
use Rattle.run_lines.specs.CommandWords.{RunCommand}
use Rattle.run_plan.specs.Running.{world_of, AreSound, entry_method}
use Rattle.weave_plan.specs.Faults.{is_faulty, IsFirstFault}
use Rattle.weave_plan.specs.Worlds.{classes_of}
use Rattle.ajweave.specs.declared.status.Refusal.{Refusal}
use Rattle.ajweave.specs.declared.status.Refusal.TheVariants.{ManyFiles, BigFile, Class, World, NoEntry}
use Rattle.ajweave.specs.Answers.{most_names, in_folder}
use Rattle.ajweave.specs.Runs.{files_under, Outcome, Refused, Ran, ScriptRead, NotTaken, Answers, ReadsScript, RunsFrom, RunsClasses, RunsAnswered, RunsRead, ComesTo}
use Rattle.ajweave.specs.Steps.{Settles}
use Rattle.ajweave.proofs.Refusals.{in_folder-same}

-- ---- relations that hold of one thing alone

settle_alone : {T : Type 0} (x : T) → Settles (λ y. y ≡ x) x
settle_alone x = record { holds = refl; only = λ other h. h }

settle_where : {T : Type 0} (Holds : Type 0) (x : T) → Holds → Settles (λ y. Holds × (y ≡ x)) x
settle_where Holds x h = record { holds = (h, refl); only = λ other p. p.1 }

-- what a relation holds of is told, and it tells the same of all
settle_named : {S T : Type 0} (P : S → Type 0) (f : S → T) (s : S) → P s → ((r : S) → P r → f r ≡ f s) → Settles (λ y. (r : S) × P r × (y ≡ f r)) (f s)
settle_named P f s h same = record { holds = (s, h, refl); only = λ other p. p.2 ∙ same p.0 p.1 }

-- through the one thing that a first relation holds of
settle_through : {S T : Type 0} (P : S → Type 0) (Q : S → T → Type 0) (s : S) (x : T) → Settles P s → Settles (Q s) x → Settles (λ y. (r : S) × P r × Q r y) x
settle_through P Q s x first second = record {
  holds = (s, first.holds, second.holds);
  only = λ other p. second.only other (subst (λ r. Q r other) (first.only p.0 p.1) p.2);
}

-- Something is wrong at a stage, or it is passed and the rest follows.
module _ {T : Type 0} (Wrong : T → Type 0) (Passed : Type 0) (Rest : T → Type 0) (x : T) where
  abbrev Stage : T → Type 0
  Stage y = Wrong y ⊎ (Passed × Rest y)

  settle_wrong : Settles Wrong x → (Passed → ⊥) → Settles Stage x
  settle_wrong s never = record { holds = inl s.holds; only = only }
    where
      only : (other : T) → Stage other → other ≡ x
      only other (inl wrong) = s.only other wrong
      only other (inr p) = absurd (never p.0)

  settle_passed : ((y : T) → Wrong y → ⊥) → Passed → Settles Rest x → Settles Stage x
  settle_passed never passed s = record { holds = inr (passed, s.holds); only = only }
    where
      only : (other : T) → Stage other → other ≡ x
      only other (inl wrong) = absurd (never other wrong)
      only other (inr p) = s.only other p.1

settle_none : {A T : Type 0} (o : Option A) (a : T) (f : A → T) → o ≡ None → Settles (λ y. MatchOption o (y ≡ a) (λ m. y ≡ f m)) a
settle_none o a f none = subst (λ o. Settles (λ y. MatchOption o (y ≡ a) (λ m. y ≡ f m)) a) (sym none) (settle_alone a)

settle_some : {A T : Type 0} (o : Option A) (a : T) (f : A → T) (m : A) → o ≡ Some m → Settles (λ y. MatchOption o (y ≡ a) (λ m. y ≡ f m)) (f m)
settle_some o a f m some = subst (λ o. Settles (λ y. MatchOption o (y ≡ a) (λ m. y ≡ f m)) (f m)) (sym some) (settle_alone (f m))

-- ---- the number of files

over : (n : ℕ) → n ≤ most_names → most_names < n → ⊥
over n few many = omega arith

pub settle_many : (run : RunCommand) (files : Files) → most_names < length (names_under run.input files) → Settles (ComesTo run files) (Refused ManyFiles)
settle_many run files many =
    settle_wrong _ _ _ _ (settle_where (most_names < length (names_under run.input files)) (Refused ManyFiles) many) (λ few. over _ few many)

abbrev class_files : RunCommand → Files → Files
class_files run files = files_under is_class_file run.input files

settle_few : (run : RunCommand) (files : Files) (x : Outcome) → length (names_under run.input files) ≤ most_names → Settles (RunsRead run files (class_files run files)) x → Settles (ComesTo run files) x
settle_few run files x few s = settle_passed _ _ _ _ (λ y wrong. over _ few wrong.0) few s

-- ---- the first of the files

abbrev File : Type 0
File = List ℕ × List ℕ

file-same : (one other : File) → ◌≡◌ {A = Option File} (Some one) (Some other) → one ≡ other
file-same one other h = same_Some one other h

no_file : (found : Option File) (f : File) → found ≡ None → found ≡ Some f → ⊥
no_file found f none some = none-some f (sym none ∙ some)

-- one file alone is the first that passes a test
first-same : (test : File → Bool) (files : Files) (folder name other : List ℕ) → IsFirst test files (in_folder folder name) → IsFirst test files (in_folder folder other) → name ≡ other
first-same test files folder name other one two =
    let file = file-same (in_folder folder name, one.bytes) (in_folder folder other, two.bytes) (sym one.found ∙ two.found) in
    in_folder-same folder name other (ap (λ (f : File). f.0) file)

fault-same : (one other : ClassFault) → ◌≡◌ {A = Result ClassFile ClassFault} (Err one) (Err other) → one ≡ other
fault-same one other h = cc

abbrev class_refusal : List ℕ → ClassFault → Refusal
class_refusal name fault = Class name fault

-- one fault alone is that of the first class file that is none
class-same : (files : Files) (folder name other : List ℕ) (fault next : ClassFault) → IsFirstFault files (in_folder folder name) fault → IsFirstFault files (in_folder folder other) next → class_refusal name fault ≡ class_refusal other next
class-same files folder name other fault next one two =
    let file = file-same (in_folder folder name, one.bytes) (in_folder folder other, two.bytes) (sym one.first ∙ two.first) in
    let names : name ≡ other = in_folder-same folder name other (ap (λ (f : File). f.0) file) in
    let faults : fault ≡ next = fault-same fault next (sym one.read ∙ ap (λ (f : File). reading f.1) file ∙ two.read) in
    ap (λ (n : List ℕ). class_refusal n fault) names ∙ ap (class_refusal other) faults

-- ---- the sizes

pub settle_big : (run : RunCommand) (files : Files) (name : List ℕ) → length (names_under run.input files) ≤ most_names → IsFirst is_big (files_under is_class_file run.input files) (in_folder run.input name) → Settles (ComesTo run files) (Refused (BigFile name))
settle_big run files name few first =
    settle_few run files _ few (settle_wrong _ _ _ _
    (settle_named (λ n. IsFirst is_big (class_files run files) (in_folder run.input n)) (λ n. Refused (BigFile n)) name first
    (λ n other. ap (λ (m : List ℕ). Refused (BigFile m)) (first-same is_big (class_files run files) run.input n name other first)))
    (λ small. no_file _ _ small first.found))

-- it comes to what it comes to of what is read of the script
settle_read : (run : RunCommand) (files : Files) (read : ScriptRead) (x : Outcome) → length (names_under run.input files) ≤ most_names → find is_big (class_files run files) ≡ None → Settles (ReadsScript run.script files) read → Settles (RunsAnswered run (class_files run files) read) x → Settles (ComesTo run files) x
settle_read run files read x few small script s =
    settle_few run files x few (settle_passed _ _ _ _ (λ y wrong. no_file _ _ small wrong.1.found) small
    (settle_through (ReadsScript run.script files) (RunsAnswered run (class_files run files)) read x script s))

-- ---- the script

pub settle_script : (run : RunCommand) (files : Files) (refusal : Refusal) → length (names_under run.input files) ≤ most_names → find is_big (files_under is_class_file run.input files) ≡ None → Settles (ReadsScript run.script files) (NotTaken refusal) → Settles (ComesTo run files) (Refused refusal)
settle_script run files refusal few small script =
    settle_read run files (NotTaken refusal) (Refused refusal) few small script (settle_alone (Refused refusal))

-- ---- the class files

pub settle_class : (run : RunCommand) (files : Files) (answers : List Answer) (name : List ℕ) (fault : ClassFault) → length (names_under run.input files) ≤ most_names → find is_big (files_under is_class_file run.input files) ≡ None → Settles (ReadsScript run.script files) (Answers answers) → IsFirstFault (files_under is_class_file run.input files) (in_folder run.input name) fault → Settles (ComesTo run files) (Refused (Class name fault))
settle_class run files answers name fault few small script first =
    settle_read run files (Answers answers) _ few small script
    (settle_wrong _ _ _ _ (record { holds = (name, fault, first, refl); only = only }) (λ sound. no_file _ _ sound first.first))
  where
    only : (other : Outcome) → ((n : List ℕ) × (f : ClassFault) × IsFirstFault (class_files run files) (in_folder run.input n) f × (other ≡ Refused (Class n f))) → other ≡ Refused (Class name fault)
    only other p = p.3 ∙ ap Refused (class-same (class_files run files) run.input p.0 name p.1 fault p.2 first)

-- it comes to what it comes to of the classes that the files are
settle_classes : (run : RunCommand) (files : Files) (answers : List Answer) (x : Outcome) → length (names_under run.input files) ≤ most_names → find is_big (class_files run files) ≡ None → Settles (ReadsScript run.script files) (Answers answers) → find is_faulty (class_files run files) ≡ None → Settles (RunsClasses run (classes_of (class_files run files)) answers) x → Settles (ComesTo run files) x
settle_classes run files answers x few small script read s =
    settle_read run files (Answers answers) x few small script (settle_passed _ _ _ _ (λ y wrong. no_file _ _ read wrong.2.first) read s)

-- ---- their world

settle_faulty : (run : RunCommand) (classes : List ClassFile) (answers : List Answer) (fault : WorldFault) → world.IsFirstFault classes library_heads true fault → Settles (RunsClasses run classes answers) (Refused (World fault))
settle_faulty run classes answers fault first =
    settle_wrong _ _ _ _
    (settle_named (world.IsFirstFault classes library_heads true) (λ f. Refused (World f)) fault first
    (λ f other. ap (λ (w : WorldFault). Refused (World w)) (first_fault_same classes library_heads true f fault other first)))
    (λ sound. sound_has_none classes library_heads true sound fault first)

settle_sound : (run : RunCommand) (classes : List ClassFile) (answers : List Answer) (x : Outcome) → AreSound classes → Settles (RunsFrom run classes answers) x → Settles (RunsClasses run classes answers) x
settle_sound run classes answers x sound s =
    settle_passed _ _ _ _ (λ y wrong. sound_has_none classes library_heads true sound wrong.0 wrong.1) sound s

pub settle_world : (run : RunCommand) (files : Files) (answers : List Answer) (fault : WorldFault) → length (names_under run.input files) ≤ most_names → find is_big (files_under is_class_file run.input files) ≡ None → Settles (ReadsScript run.script files) (Answers answers) → find is_faulty (files_under is_class_file run.input files) ≡ None → world.IsFirstFault (classes_of (files_under is_class_file run.input files)) library_heads true fault → Settles (ComesTo run files) (Refused (World fault))
settle_world run files answers fault few small script read first =
    settle_classes run files answers _ few small script read (settle_faulty run _ answers fault first)

-- ---- the entry

pub settle_entry : (run : RunCommand) (files : Files) (answers : List Answer) → length (names_under run.input files) ≤ most_names → find is_big (files_under is_class_file run.input files) ≡ None → Settles (ReadsScript run.script files) (Answers answers) → find is_faulty (files_under is_class_file run.input files) ≡ None → AreSound (classes_of (files_under is_class_file run.input files)) → entry_method (world_of (classes_of (files_under is_class_file run.input files))) run.entry ≡ None → Settles (ComesTo run files) (Refused (NoEntry run.word))
settle_entry run files answers few small script read sound none =
    let classes : List ClassFile = classes_of (class_files run files) in
    settle_classes run files answers _ few small script read
    (settle_sound run classes answers _ sound (settle_none (entry_method (world_of classes) run.entry) _ _ none))

pub settle_ran : (run : RunCommand) (files : Files) (answers : List Answer) → length (names_under run.input files) ≤ most_names → find is_big (files_under is_class_file run.input files) ≡ None → Settles (ReadsScript run.script files) (Answers answers) → find is_faulty (files_under is_class_file run.input files) ≡ None → AreSound (classes_of (files_under is_class_file run.input files)) → (method : Method) → entry_method (world_of (classes_of (files_under is_class_file run.input files))) run.entry ≡ Some method → Settles (ComesTo run files) (Ran (class_observation (classes_of (files_under is_class_file run.input files)) (map machine_answer answers) method (map argument_of run.entry.args) run.steps))
settle_ran run files answers few small script read sound method some =
    let classes : List ClassFile = classes_of (class_files run files) in
    settle_classes run files answers _ few small script read
    (settle_sound run classes answers _ sound (settle_some (entry_method (world_of classes) run.entry) (Refused (NoEntry run.word))
    (λ m. Ran (class_observation classes (map machine_answer answers) m (map argument_of run.entry.args) run.steps)) method some))
