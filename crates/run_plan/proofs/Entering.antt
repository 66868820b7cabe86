-- The world of the classes, the entry in it, and what is reported from there.
use Rattle.std.proofs.Common.{◌≡◌, ℕ, true, List, ◌++◌, map, Some, Result, Err, IfErr, sym, ap, subst, ◌∙◌}
use Rattle.std.specs.Prelude.{IsTrue}
use Rattle.std.specs.List.{AllByRecursion}
use Rattle.boot_library.specs.Heads.{library_heads}
use Rattle.class_file.specs.declared.types.ClassFile.{ClassFile}
use Rattle.class_file.specs.WellFormed.{is_well_formed}
use Rattle.class_heads.specs.declared.types.ClassHead.{ClassHead}
use Rattle.class_heads.specs.Faults as world
use Rattle.class_heads.specs.Heads.{head_of}
use Rattle.class_machine.specs.Classes.{Method}
use Rattle.class_machine.specs.Declarations.{run_heads}
use Rattle.class_machine.specs.Run.{class_observation}
use Rattle.class_world.specs.Tables.{Known}
use Rattle.machine_code.specs.Programs.{IsProgram}
use Rattle.machine_code.specs.SoundLaws.{sound_is_program}
use Rattle.machine_invocations.specs.Methods.{Sees, IsFound}
use Rattle.machine_start.specs.Arguments.{argument_of}
use Rattle.machine_start.specs.Entries.{entry_of}
use Rattle.machine_steps.specs.Programs.{IsRunnable}
use Rattle.machine_steps.specs.Runs.{IsMethod}
use Rattle.machine_values.specs.declared.script.Answer.{Answer}
use Rattle.machine_values.specs.declared.script.Entry.{Entry}
use Rattle.machine_values.specs.declared.script.EntryArg.{EntryArg}
use Rattle.machine_values.specs.Observed.{machine_answer}
use Rattle.run_driver.specs.declared.report.Report.{Report}
use Rattle.run_driver.specs.Reports.{Reports}
use Rattle.run_lines.specs.declared.entry.EntryWords.{EntryWords}
use Rattle.run_plan.specs.declared.fault.RunFault.{RunFault}
use Rattle.run_plan.specs.declared.fault.RunFault.TheVariants.{Memory}
use Rattle.run_plan.specs.Running.{world_of, AreSound, entry_method, RunsFrom, IsRefused, IsEntry}

-- ---- the world

-- the machine runs sound classes beside the library
pub runnable_world : (classes : List ClassFile) (library : List ClassHead) (k : Known) → library ≡ library_heads → world.IsLibrary library
    → AllByRecursion (λ c. IsTrue (is_well_formed c)) classes → k.heads ≡ world.world_heads classes library true → k.files ≡ classes
    → world.IsSound classes library true → IsRunnable k
runnable_world classes library k exact lib formed heads files sound = record {
  program = subst (λ (x : List ClassFile). IsProgram x k.heads) (sym files)
      (subst (λ (x : List ClassHead). IsProgram classes x) (sym heads) (sound_is_program classes library true lib sound formed));
  library = heads ∙ ap (λ (x : List ClassHead). map head_of classes ++ x) exact ∙ ap (λ (x : List ClassFile). run_heads (map head_of x)) (sym files);
}

-- ---- the entry

-- the words by their parts
named : (k : Known) (words : EntryWords) (class name : List ℕ) (args : List EntryArg) → class ≡ words.class → name ≡ words.method → args ≡ words.args
    → entry_of k class name (map argument_of args) ≡ entry_method k words
named k words class name args c n a =
    ap (λ (x : List ℕ). entry_of k x name (map argument_of args)) c
    ∙ ap (λ (x : List ℕ). entry_of k words.class x (map argument_of args)) n
    ∙ ap (λ (x : List EntryArg). entry_of k words.class words.method (map argument_of x)) a

-- the method that takes the words, with their arguments
pub entry_named : (k : Known) (words : EntryWords) (class name : List ℕ) (args : List EntryArg) → class ≡ words.class → name ≡ words.method → args ≡ words.args
    → (entry : Entry) → IsMethod k entry.method.0 → entry.args ≡ words.args → IsFound k entry.method.0 (entry_of k class name (map argument_of args)) → IsEntry k words entry
entry_named k words class name args c n a entry there same found = record {
  there = there;
  args = same;
  method = found.method;
  sees = found.sees;
  found = sym (named k words class name args c n a) ∙ found.is;
}

-- ---- the run

module _ (classes : List ClassFile) (words : EntryWords) (k : Known) (same : k ≡ world_of classes) (sound : AreSound classes) where
  entered : (entry : Entry) (answers : List Answer) (steps : ℕ) (report : Report) (is : IsEntry k words entry)
      → Reports (class_observation k.files (map machine_answer answers) is.method (map argument_of entry.args)) steps report
      → Reports (class_observation classes (map machine_answer answers) is.method (map argument_of words.args)) steps report
  entered entry answers steps report is h =
      subst (λ (x : List EntryArg). Reports (class_observation classes (map machine_answer answers) is.method (map argument_of x)) steps report) is.args
      (subst (λ (x : List ClassFile). Reports (class_observation x (map machine_answer answers) is.method (map argument_of entry.args)) steps report) (ap (λ (x : Known). x.files) same) h)

  -- what is reported of a run from the entry is told of the classes and the words
  pub runs_from : (entry : Entry) (answers : List Answer) (steps : ℕ) (report : Report) → IsEntry k words entry
      → ((method : Method) → Sees k entry.method.0 method → Reports (class_observation k.files (map machine_answer answers) method (map argument_of entry.args)) steps report)
      → RunsFrom classes words answers steps report
  runs_from entry answers steps report is h = record {
    sound = sound;
    method = is.method;
    found = subst (λ (x : Known). entry_method x words ≡ Some is.method) same is.found;
    reports = entered entry answers steps report is (h is.method is.sees);
  }

-- ---- the faults

-- for want of memory nothing is told
pub refused_memory : (classes : List ClassFile) (words : EntryWords) (fault : RunFault) → fault ≡ Memory → IsRefused classes words fault
refused_memory classes words fault e = subst (IsRefused classes words) (sym e) tt

-- such a fault in a result
pub err_of : {T : Type 0} (P : RunFault → Type 0) (r : Result T RunFault) (fault : RunFault) → r ≡ Err fault → P fault → IfErr r P
err_of {T} P r fault was h = subst (λ (x : Result T RunFault). IfErr x P) (sym was) h
