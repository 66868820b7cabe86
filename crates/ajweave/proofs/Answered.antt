-- All that is said of a call of the program but when its faults come.
use Rattle.std.proofs.Common.{◌≡◌, ◌≢◌, ◌↔◌, ℕ, ◌<◌, ◌⊎◌, inl, inr, List, Option, Some, None, Err, refl, sym, subst, arith}
use Rattle.aj_outside.specs.Counts.{Rose, ComesWithRise, last_count}
use Rattle.aj_outside.specs.Files.{Files}
use Rattle.ajweave.specs.declared.status.Refusal.{Refusal}
use Rattle.ajweave.specs.declared.status.Status.{Status}
use Rattle.ajweave.specs.declared.status.Status.TheVariants as status
use Rattle.ajweave.specs.declared.stop.Stop.TheVariants as stop
use Rattle.ajweave.specs.Words.{Folders}
use Rattle.ajweave.specs.Answers.{AnswersPrinted, AnswersRead, AnswersDone, IsRefused, IsOfWeaving, IsValid, WritesWeaving, BehavesAsWritten, WritesExactly, WritesUntouched, WritesDeclared, OnTold, Commanded, CommandedTo, CommandedSome, KeepsShelf, Prints}
use Rattle.ajweave.specs.Runs.{Refused, ComesTo, SaysRun, SayNoRun, IsOfRunning}
use Rattle.ajweave.specs.Steps.{OnStop, IsWeavingStop, Ends, Reports}
use Rattle.ajweave.proofs.Answering.{Ended, Text, behaves_by, written_by, untouched_by, declared_by, done_ended, done_valid, command_never_usage, read_ended, write_ended, refused_ended, refused_only_ended, own_ended, complete_ended, kept_ended, some_ended, memory_ended, printed_ended, usage_answers, usage_printed, kept_always}
use Rattle.ajweave.proofs.Running.{RunAnswered}

pub record Answered (words : List (List ℕ)) (command : Option Folders) (held held_now : Option Files) (result : Status) (before now : Option (List ℕ)) : Type 0 where
  pub headline : result ≡ status.Done → CommandedTo command held held_now WritesWeaving
  pub behaves : result ≡ status.Done → CommandedTo command held held_now BehavesAsWritten
  pub written : result ≡ status.Done → CommandedTo command held held_now WritesExactly
  pub untouched : result ≡ status.Done → CommandedTo command held held_now WritesUntouched
  pub declared : result ≡ status.Done → CommandedTo command held held_now WritesDeclared
  pub usage : command ≡ None → SayNoRun words → AnswersPrinted status.Usage result
  pub usage_only : result ≡ status.Usage → (command ≡ None) × SayNoRun words
  pub refused : OnTold command held (λ folders files. (refusal : Refusal) → IsRefused folders.input files refusal → AnswersRead (status.Refused refusal) result)
  pub refused_only : (refusal : Refusal) → result ≡ status.Refused refusal → (Commanded command held (λ folders files. IsRefused folders.input files refusal) × IsOfWeaving refusal) ⊎ (SaysRun words held (λ run files. ComesTo run files (Refused refusal)) × IsOfRunning refusal)
  pub complete : OnTold command held (λ folders files. IsValid folders.input files → AnswersDone result)
  pub done_only : result ≡ status.Done → Commanded command held (λ folders files. IsValid folders.input files)
  pub shelf_kept : KeepsShelf result held held_now
  pub written_some : result ≡ status.WriteFault → CommandedSome command held held_now
  pub without_memory : result ≡ status.OutOfMemory → (held_now ≡ held) ⊎ CommandedSome command held held_now
  pub printed : SayNoRun words → Prints result command held before now

some_none : (folders : Folders) → ◌≡◌ {A = Option Folders} (Some folders) None → ⊥
some_none folders h = cc

ended_answers : (words : List (List ℕ)) (folders : Folders) (held held_now : Option Files) (ended : Ended) (result : Status) (before now : Text) → Reports ended result before now → Ends ended folders held held_now → OnStop ended IsWeavingStop → Answered words (Some folders) held held_now result before now
ended_answers words folders held held_now ended result before now r e own = record {
  headline = λ d. (done_ended folders held held_now ended result before now r e d).0;
  behaves = λ d. behaves_by (Some folders) held held_now (done_ended folders held held_now ended result before now r e d).0;
  written = λ d. written_by (Some folders) held held_now (done_ended folders held held_now ended result before now r e d).0;
  untouched = λ d. untouched_by (Some folders) held held_now (done_ended folders held held_now ended result before now r e d).0;
  declared = λ d. declared_by (Some folders) held held_now (done_ended folders held held_now ended result before now r e d).0;
  usage = λ d none. absurd (some_none folders d);
  usage_only = λ d. absurd (command_never_usage ended result before now r d);
  refused = refused_ended folders held held_now ended result before now r e;
  refused_only = λ refusal d. inl (refused_only_ended folders held held_now ended result before now r e refusal d, own_ended ended result before now r own refusal d);
  complete = complete_ended folders held held_now ended result before now r e;
  done_only = λ d. done_valid folders held (done_ended folders held held_now ended result before now r e d).1;
  shelf_kept = kept_ended folders held held_now ended result before now r e;
  written_some = some_ended folders held held_now ended result before now r e;
  without_memory = memory_ended folders held held_now ended result before now r e;
  printed = λ none. printed_ended folders held held_now ended result before now r e;
}

-- of a weaving
pub Answered-command : (words : List (List ℕ)) (command : Option Folders) (folders : Folders) (held held_now : Option Files) (ended : Ended) (result : Status) (before now : Text) → command ≡ Some folders → Reports ended result before now → Ends ended folders held held_now → OnStop ended IsWeavingStop → Answered words command held held_now result before now
Answered-command words command folders held held_now ended result before now is r e own =
    subst (λ (c : Option Folders). Answered words c held held_now result before now) (sym is) (ended_answers words folders held held_now ended result before now r e own)

other_answers : (words : List (List ℕ)) (held held_now : Option Files) (result : Status) (before now : Text) (faults faults_now missing missing_now : ℕ) → RunAnswered words held result before now faults faults_now missing missing_now → held_now ≡ held → Answered words None held held_now result before now
other_answers words held held_now result before now faults faults_now missing missing_now a kept = record {
  headline = λ d. absurd (a.never_done d);
  behaves = λ d. absurd (a.never_done d);
  written = λ d. absurd (a.never_done d);
  untouched = λ d. absurd (a.never_done d);
  declared = λ d. absurd (a.never_done d);
  usage = λ d none. usage_answers result before now (a.usage none);
  usage_only = λ d. (refl, a.usage_only d);
  refused = tt;
  refused_only = λ refusal d. inr (a.refused_only refusal d);
  complete = tt;
  done_only = λ d. absurd (a.never_done d);
  shelf_kept = kept_always result held held_now kept;
  written_some = λ d. absurd (a.never_written d);
  without_memory = λ d. inl kept;
  printed = λ none. usage_printed held result before now (a.usage none);
}

-- of words that are no weaving
pub Answered-other : (words : List (List ℕ)) (command : Option Folders) (held held_now : Option Files) (result : Status) (before now : Text) (faults faults_now missing missing_now : ℕ) → command ≡ None → RunAnswered words held result before now faults faults_now missing missing_now → held_now ≡ held → Answered words command held held_now result before now
Answered-other words command held held_now result before now faults faults_now missing missing_now is a kept =
    subst (λ (c : Option Folders). Answered words c held held_now result before now) (sym is) (other_answers words held held_now result before now faults faults_now missing missing_now a kept)

-- ---- when faults come

pub read_fault : (ended : Ended) (result : Status) (before now : Text) (P : Type 0) → Reports ended result before now → (ended ≡ Err stop.Read) ↔ P → (result ≡ status.ReadFault) ↔ P
read_fault ended result before now P r iff =
    let i = read_ended ended result before now r in
    (λ d. iff.0 (i.0 d), λ p. i.1 (iff.1 p))

pub write_fault : (ended : Ended) (result : Status) (before now : Text) (first last : ℕ) → Reports ended result before now → ComesWithRise (ended ≡ Err stop.Write) first last → first < last_count → (result ≡ status.WriteFault) ↔ Rose first last
write_fault ended result before now first last r comes below =
    let i = write_ended ended result before now r in
    (λ d. comes.only below (i.0 d), λ rose. i.1 (comes.risen rose))

pub fault_comes : (answered : Type 0) (first last : ℕ) → ComesWithRise answered first last → first < last_count → answered ↔ Rose first last
fault_comes answered first last comes below = (comes.only below, comes.risen)

pub never_written : (result : Status) (before now : ℕ) → result ≢ status.WriteFault → now ≡ before → (result ≡ status.WriteFault) ↔ Rose before now
never_written result before now never same = (λ d. absurd (never d), λ rose. absurd (flat rose))
  where
    flat : Rose before now → ⊥
    flat rose = omega arith
