-- What a run answers, from how its command ended and what was printed.
use Rattle.std.proofs.Common.{◌≡◌, ◌≢◌, ◌↔◌, ℕ, ◌⊎◌, inl, inr, List, [], ◌∷◌, Option, Some, None, Result, Ok, Err, refl, sym, subst, arith}
use Rattle.std.specs.Prelude.{IfSome}
use Rattle.std.specs.Option.{option_map}
use Rattle.std.proofs.lemmas.Option.{IfSome_then}
use Rattle.aj_outside.specs.Counts.{Rose, ComesWithRise}
use Rattle.aj_outside.specs.Files.{Files}
use Rattle.class_machine.specs.Events.{Ending, Returned, Uncaught, InitFailed, Exit, Unmodelled, Unresolved, ScriptEnds, Broken}
use Rattle.machine_values.specs.Observed.{machine_ending}
use Rattle.run_driver.specs.declared.report.Report.{Report}
use Rattle.run_lines.specs.CommandWords.{RunCommand, AreRunWords}
use Rattle.run_lines.specs.Reading.{IsOfNoOther}
use Rattle.ajweave.specs.declared.status.Refusal.{Refusal}
use Rattle.ajweave.specs.declared.status.Refusal.TheVariants as refusals
use Rattle.ajweave.specs.declared.status.Status.{Status}
use Rattle.ajweave.specs.declared.status.Status.TheVariants as status
use Rattle.ajweave.specs.declared.stop.Stop.{Stop}
use Rattle.ajweave.specs.declared.stop.Stop.TheVariants as stop
use Rattle.ajweave.specs.Words.{Folders, command_of, usage_line, refusal_line}
use Rattle.ajweave.specs.Answers.{ReadFailed, AnswersRead, PrintsFor}
use Rattle.ajweave.specs.Runs.{Outcome, Refused, Ran, ComesTo, answer_of, answer_of_ending, AnswersRun, SaysRun, SayNoRun, NamesScript, IsOfRunning, IsOfRun, IsObserved, MayFollow, FollowsMissing, seen_text}
use Rattle.ajweave.specs.Steps.{OnStop, IsRunStop, RunEnds, EndsMissing, IsNoScript, ReportsRun, Settles, seen_of}
use Rattle.ajweave.proofs.Answering.{Text, usage_never, usage_never_observed}

abbrev pub RunEnded : Type 0
RunEnded = Result Report Stop

abbrev answer_to : Report → Status
answer_to report = answer_of_ending (option_map machine_ending report.ending)

abbrev stopped : Stop → RunEnded
stopped fault = Err fault

-- ---- the answers of observed runs

IsOfRun-ending : (ending : Option Ending) → IsOfRun (answer_of_ending ending)
IsOfRun-ending None = tt
IsOfRun-ending (Some (Returned value)) = tt
IsOfRun-ending (Some (Uncaught class message)) = tt
IsOfRun-ending (Some (InitFailed class)) = tt
IsOfRun-ending (Some (Exit number)) = tt
IsOfRun-ending (Some (Unmodelled op)) = tt
IsOfRun-ending (Some (Unresolved name)) = tt
IsOfRun-ending (Some ScriptEnds) = tt
IsOfRun-ending (Some Broken) = tt

-- it is none of the other answers
never_observed : (other : Status) → ¬ (IsOfRun other) → (ending : Option Ending) → answer_of_ending ending ≡ other → ⊥
never_observed other none ending is = none (subst IsOfRun is (IsOfRun-ending ending))

-- ---- an answer after a run

-- the cases of how a run ended and of what was answered
after_run : (P : RunEnded → Status → Type 0) → ((report : Report) → P (Ok report) (answer_to report)) → P (Err stop.Read) status.ReadFault → P (Err stop.Write) status.WriteFault → P (Err stop.Memory) status.OutOfMemory → ((refusal : Refusal) → P (Err (stop.Refused refusal)) (status.Refused refusal)) → ((ended : RunEnded) → ended ≢ Err stop.Read → P ended status.PrintFault) → ((ended : RunEnded) → ended ≢ Err stop.Read → P ended status.OutOfMemory) → (ended : RunEnded) (result : Status) (before now : Text) → ReportsRun ended result before now → P ended result
after_run P seen read write memory refused unprinted unmade (Err stop.Read) result before now r = subst (P (Err stop.Read)) (sym r.0) read
after_run P seen read write memory refused unprinted unmade (Err stop.Write) result before now r = subst (P (Err stop.Write)) (sym r.0) write
after_run P seen read write memory refused unprinted unmade (Err stop.Memory) result before now r = subst (P (Err stop.Memory)) (sym r.0) memory
after_run P seen read write memory refused unprinted unmade (Ok report) result before now r = by r
  where
    by : PrintsFor (answer_to report) (seen_text (seen_of report)) result before now → P (Ok report) result
    by (inl p) = subst (P (Ok report)) (sym p.0) (seen report)
    by (inr (inl e, q)) = subst (P (Ok report)) (sym e) (unprinted (Ok report) (λ d. cc))
    by (inr (inr e, q)) = subst (P (Ok report)) (sym e) (unmade (Ok report) (λ d. cc))
after_run P seen read write memory refused unprinted unmade (Err (stop.Refused refusal)) result before now r = by r
  where
    by : PrintsFor (status.Refused refusal) (refusal_line refusal) result before now → P (Err (stop.Refused refusal)) result
    by (inl p) = subst (P (Err (stop.Refused refusal))) (sym p.0) (refused refusal)
    by (inr (inl e, q)) = subst (P (Err (stop.Refused refusal))) (sym e) (unprinted (Err (stop.Refused refusal)) (λ d. cc))
    by (inr (inr e, q)) = subst (P (Err (stop.Refused refusal))) (sym e) (unmade (Err (stop.Refused refusal)) (λ d. cc))

run_never_usage : (ended : RunEnded) (result : Status) (before now : Text) → ReportsRun ended result before now → result ≢ status.Usage
run_never_usage =
    after_run (λ ended result. result ≢ status.Usage)
    (λ report. never_observed status.Usage (λ i. i) (option_map machine_ending report.ending)) (λ d. cc) (λ d. cc) (λ d. cc) (λ refusal d. cc) (λ ended n d. cc) (λ ended n d. cc)

run_never_done : (ended : RunEnded) (result : Status) (before now : Text) → ReportsRun ended result before now → result ≢ status.Done
run_never_done =
    after_run (λ ended result. result ≢ status.Done)
    (λ report. never_observed status.Done (λ i. i) (option_map machine_ending report.ending)) (λ d. cc) (λ d. cc) (λ d. cc) (λ refusal d. cc) (λ ended n d. cc) (λ ended n d. cc)

run_never_written : (run : RunCommand) (held : Option Files) (ended : RunEnded) (result : Status) (before now : Text) → ReportsRun ended result before now → RunEnds ended run held → result ≢ status.WriteFault
run_never_written run held =
    after_run (λ ended result. RunEnds ended run held → result ≢ status.WriteFault)
    (λ report e. never_observed status.WriteFault (λ i. i) (option_map machine_ending report.ending)) (λ e d. cc) (λ e d. e) (λ e d. cc) (λ refusal e d. cc) (λ ended n e d. cc) (λ ended n e d. cc)

-- a failed read is what the run ended at
run_read : (ended : RunEnded) (result : Status) (before now : Text) → ReportsRun ended result before now → (result ≡ status.ReadFault) ↔ (ended ≡ Err stop.Read)
run_read =
    after_run (λ ended result. (result ≡ status.ReadFault) ↔ (ended ≡ Err stop.Read))
    (λ report. (λ d. absurd (never_observed status.ReadFault (λ i. i) (option_map machine_ending report.ending) d), λ d. cc))
    (λ d. refl, λ d. refl) (λ d. cc, λ d. cc) (λ d. cc, λ d. cc) (λ refusal. (λ d. cc, λ d. cc))
    (λ ended n. (λ d. cc, λ d. absurd (n d))) (λ ended n. (λ d. cc, λ d. absurd (n d)))

same_stop : (a b : Refusal) → status.Refused a ≡ status.Refused b → stopped (stop.Refused a) ≡ Err (stop.Refused b)
same_stop a b h = cc

-- a refusal is what the run ended at
run_refused : (refusal : Refusal) (ended : RunEnded) (result : Status) (before now : Text) → ReportsRun ended result before now → result ≡ status.Refused refusal → ended ≡ Err (stop.Refused refusal)
run_refused refusal =
    after_run (λ ended result. result ≡ status.Refused refusal → ended ≡ Err (stop.Refused refusal))
    (λ report d. absurd (never_observed (status.Refused refusal) (λ i. i) (option_map machine_ending report.ending) d))
    (λ d. cc) (λ d. cc) (λ d. cc) (λ other d. same_stop other refusal d) (λ ended n d. cc) (λ ended n d. cc)

-- ---- what a run answers

-- the text is that of this answer, or the answer is another
printed_answers : (answer : Status) (text : List ℕ) (result : Status) (before now : Text) → PrintsFor answer text result before now → (result ≡ answer) ⊎ ((result ≡ status.PrintFault) ⊎ (result ≡ status.OutOfMemory))
printed_answers answer text result before now (inl p) = inl p.0
printed_answers answer text result before now (inr p) = inr p.0

run_answers : (run : RunCommand) (held : Option Files) (ended : RunEnded) (result : Status) (before now : Text) → ReportsRun ended result before now → RunEnds ended run held → AnswersRun run held result before now
run_answers run held (Ok report) result before now r e = inl (Ran (seen_of report), IfSome_then held e (λ files s. s.holds), r)
run_answers run held (Err stop.Read) result before now r e = inr (inl r.0, r.1)
run_answers run held (Err stop.Write) result before now r e = absurd e
run_answers run held (Err stop.Memory) result before now r e = inr (inr r.0, r.1)
run_answers run held (Err (stop.Refused refusal)) result before now r e = inl (Refused refusal, IfSome_then held e (λ files s. s.holds), r)

-- the answer is that of each outcome
abbrev AnswersEach : RunCommand → Option Files → Status → Type 0
AnswersEach run held result = IfSome held (λ files. (outcome : Outcome) → ComesTo run files outcome → AnswersRead (answer_of outcome) result)

answers_each : (run : RunCommand) (held : Option Files) (result : Status) → ((outcome : Outcome) → AnswersRead (answer_of outcome) result) → AnswersEach run held result
answers_each run None result h = tt
answers_each run (Some files) result h = λ outcome c. h outcome

answers_settled : (run : RunCommand) (held : Option Files) (one : Outcome) (result : Status) → IfSome held (λ files. Settles (ComesTo run files) one) → AnswersRead (answer_of one) result → AnswersEach run held result
answers_settled run held one result e h =
    IfSome_then held e (λ files s outcome c. subst (λ (o : Outcome). AnswersRead (answer_of o) result) (sym (s.only outcome c)) h)

run_exactly : (run : RunCommand) (held : Option Files) (ended : RunEnded) (result : Status) (before now : Text) → ReportsRun ended result before now → RunEnds ended run held → AnswersEach run held result
run_exactly run held (Ok report) result before now r e =
    answers_settled run held (Ran (seen_of report)) result e (inr (printed_answers (answer_to report) (seen_text (seen_of report)) result before now r))
run_exactly run held (Err stop.Read) result before now r e = answers_each run held result (λ outcome. inl r.0)
run_exactly run held (Err stop.Write) result before now r e = absurd e
run_exactly run held (Err stop.Memory) result before now r e = answers_each run held result (λ outcome. inr (inr (inr r.0)))
run_exactly run held (Err (stop.Refused refusal)) result before now r e =
    answers_settled run held (Refused refusal) result e (inr (printed_answers (status.Refused refusal) (refusal_line refusal) result before now r))

-- an answer of a run was observed
run_observed : (run : RunCommand) (held : Option Files) (ended : RunEnded) (result : Status) (before now : Text) → ReportsRun ended result before now → RunEnds ended run held → IsOfRun result → IfSome held (IsObserved result run)
run_observed run held =
    after_run (λ ended result. RunEnds ended run held → IsOfRun result → IfSome held (IsObserved result run))
    (λ report e i. IfSome_then held e (λ files s. (seen_of report, refl, s.holds)))
    (λ e i. absurd i) (λ e i. absurd i) (λ e i. absurd i) (λ refusal e i. absurd i) (λ ended n e i. absurd i) (λ ended n e i. absurd i)

run_refused_only : (run : RunCommand) (held : Option Files) (refusal : Refusal) (ended : RunEnded) → RunEnds ended run held → ended ≡ Err (stop.Refused refusal) → IfSome held (λ files. ComesTo run files (Refused refusal))
run_refused_only run held refusal ended e is =
    let settled : IfSome held (λ files. Settles (ComesTo run files) (Refused refusal)) = subst (λ (x : RunEnded). RunEnds x run held) is e in
    IfSome_then held settled (λ files s. s.holds)

run_own : (refusal : Refusal) (ended : RunEnded) → OnStop ended IsRunStop → ended ≡ Err (stop.Refused refusal) → IsOfRunning refusal
run_own refusal ended own is = subst (λ (x : RunEnded). OnStop x IsRunStop) is own

-- ---- a script whose file is missing

-- the answer of a run at which the file of the script alone is missing
run_missing : (words : List (List ℕ)) (run : RunCommand) (ended : RunEnded) (result : Status) (before now : Text) → AreRunWords words run → ReportsRun ended result before now → EndsMissing run.script ended → FollowsMissing words result before now
run_missing words run ended result before now says r m = record { run = run; says = says; name = m.name; named = m.named; answers = by m.name m.ends }
  where
    by : (name : List ℕ) → ((refusal : Refusal) × MayFollow name refusal × (ended ≡ Err (stop.Refused refusal))) ⊎ (ended ≡ Err stop.Memory) → ((refusal : Refusal) × MayFollow name refusal × PrintsFor (status.Refused refusal) (refusal_line refusal) result before now) ⊎ ((result ≡ status.OutOfMemory) × (now ≡ before))
    by name (inl (refusal, may, is)) = inl (refusal, may, subst (λ (x : RunEnded). ReportsRun x result before now) is r)
    by name (inr is) = inr (subst (λ (x : RunEnded). ReportsRun x result before now) is r)

-- ---- all that is said of words that are no weaving

pub record RunAnswered (words : List (List ℕ)) (held : Option Files) (result : Status) (before now : Text) (faults faults_now missing missing_now : ℕ) : Type 0 where
  pub usage : SayNoRun words → PrintsFor status.Usage usage_line result before now
  pub usage_only : result ≡ status.Usage → SayNoRun words
  pub read_fault : result ≡ status.ReadFault → ReadFailed held faults faults_now missing missing_now
  pub read_failed : Rose faults faults_now → result ≡ status.ReadFault
  pub read_missed : held ≡ None → Rose missing missing_now → (result ≡ status.ReadFault) ⊎ FollowsMissing words result before now
  pub never_written : result ≢ status.WriteFault
  pub refused_only : (refusal : Refusal) → result ≡ status.Refused refusal → SaysRun words held (λ run files. ComesTo run files (Refused refusal)) × IsOfRunning refusal
  pub no_script : (name : List ℕ) → result ≡ status.Refused (refusals.NoScript name) → NamesScript words name × Rose missing missing_now
  pub never_done : result ≢ status.Done
  pub ran : (run : RunCommand) → AreRunWords words run → AnswersRun run held result before now
  pub ran_exactly : (run : RunCommand) → AreRunWords words run → IfSome held (λ files. (outcome : Outcome) → ComesTo run files outcome → AnswersRead (answer_of outcome) result)
  pub ran_only : IsOfRun result → SaysRun words held (IsObserved result)

-- what is known of a run that the words say, but for what it prints
pub record IsRunBy (words : List (List ℕ)) (held : Option Files) (run : RunCommand) (ended : RunEnded) (faults faults_now missing missing_now : ℕ) : Type 0 where
  pub says : AreRunWords words run
  pub only : IsOfNoOther (AreRunWords words) run
  pub ends : RunEnds ended run held
  pub own : OnStop ended IsRunStop
  pub read : ended ≡ Err stop.Read → ReadFailed held faults faults_now missing missing_now
  pub failed : Rose faults faults_now → ended ≡ Err stop.Read
  pub missed : held ≡ None → Rose missing missing_now → (ended ≡ Err stop.Read) ⊎ EndsMissing run.script ended
  pub lost : (name : List ℕ) → IsNoScript name ended → (run.script ≡ Some name) × Rose missing missing_now

missed_of : (words : List (List ℕ)) (run : RunCommand) (ended : RunEnded) (result : Status) (before now : Text) → AreRunWords words run → ReportsRun ended result before now → (ended ≡ Err stop.Read) ⊎ EndsMissing run.script ended → (result ≡ status.ReadFault) ⊎ FollowsMissing words result before now
missed_of words run ended result before now says r (inl read) = inl ((run_read ended result before now r).1 read)
missed_of words run ended result before now says r (inr missing) = inr (run_missing words run ended result before now says r missing)

unscripted_of : (words : List (List ℕ)) (held : Option Files) (run : RunCommand) (ended : RunEnded) (name : List ℕ) (faults faults_now missing missing_now : ℕ) → IsRunBy words held run ended faults faults_now missing missing_now → ended ≡ Err (stop.Refused (refusals.NoScript name)) → NamesScript words name × Rose missing missing_now
unscripted_of words held run ended name faults faults_now missing missing_now h is =
    let lost = h.lost name is in
    (record { run = run; says = h.says; named = lost.0 }, lost.1)

-- of a run
pub RunAnswered-run : (words : List (List ℕ)) (held : Option Files) (run : RunCommand) (ended : RunEnded) (result : Status) (before now : Text) (faults faults_now missing missing_now : ℕ) → IsRunBy words held run ended faults faults_now missing missing_now → ReportsRun ended result before now → RunAnswered words held result before now faults faults_now missing missing_now
RunAnswered-run words held run ended result before now faults faults_now missing missing_now h r = record {
  usage = λ none. absurd (none run h.says);
  usage_only = λ d. absurd (run_never_usage ended result before now r d);
  read_fault = λ d. h.read ((run_read ended result before now r).0 d);
  read_failed = λ rose. (run_read ended result before now r).1 (h.failed rose);
  read_missed = λ untold rose. missed_of words run ended result before now h.says r (h.missed untold rose);
  never_written = run_never_written run held ended result before now r h.ends;
  refused_only = λ refusal d.
      let is = run_refused refusal ended result before now r d in
      ((run, h.says, run_refused_only run held refusal ended h.ends is), run_own refusal ended h.own is);
  no_script = λ name d. unscripted_of words held run ended name faults faults_now missing missing_now h (run_refused (refusals.NoScript name) ended result before now r d);
  never_done = run_never_done ended result before now r;
  ran = λ other says. subst (λ (x : RunCommand). AnswersRun x held result before now) (sym (h.only other says)) (run_answers run held ended result before now r h.ends);
  ran_exactly = λ other says. subst (λ (x : RunCommand). AnswersEach x held result) (sym (h.only other says)) (run_exactly run held ended result before now r h.ends);
  ran_only = λ i. (run, h.says, run_observed run held ended result before now r h.ends i);
}

never_rose : (first : ℕ) → Rose first first → ⊥
never_rose first rose = omega arith

-- of words that are no command
pub RunAnswered-usage : (words : List (List ℕ)) (held : Option Files) (result : Status) (before now : Text) (faults missing : ℕ) → SayNoRun words → PrintsFor status.Usage usage_line result before now → RunAnswered words held result before now faults faults missing missing
RunAnswered-usage words held result before now faults missing none r =
    let never = usage_never result before now r in record {
      usage = λ n. r;
      usage_only = λ d. none;
      read_fault = λ d. absurd (never.1 d);
      read_failed = λ rose. absurd (never_rose faults rose);
      read_missed = λ untold rose. absurd (never_rose missing rose);
      never_written = never.2;
      refused_only = λ refusal d. absurd (never.3 refusal d);
      no_script = λ name d. absurd (never.3 (refusals.NoScript name) d);
      never_done = never.0;
      ran = λ run says. absurd (none run says);
      ran_exactly = λ run says. absurd (none run says);
      ran_only = λ i. absurd (usage_never_observed result before now r i);
    }

-- memory ran out before it was known what the words say
pub RunAnswered-memory : (words : List (List ℕ)) (held : Option Files) (result : Status) (text : Text) (faults missing : ℕ) → result ≡ status.OutOfMemory → RunAnswered words held result text text faults faults missing missing
RunAnswered-memory words held result text faults missing is = record {
  usage = λ n. inr (inr is, inl refl);
  usage_only = λ d. cc;
  read_fault = λ d. cc;
  read_failed = λ rose. absurd (never_rose faults rose);
  read_missed = λ untold rose. absurd (never_rose missing rose);
  never_written = λ d. cc;
  refused_only = λ refusal d. cc;
  no_script = λ name d. cc;
  never_done = λ d. cc;
  ran = λ run says. inr (inr is, refl);
  ran_exactly = λ run says. answers_each run held result (λ outcome. inr (inr (inr is)));
  ran_only = λ i. absurd (subst IsOfRun is i);
}

pub memory_never_prints : (faults : ℕ) → ComesWithRise (status.OutOfMemory ≡ status.PrintFault) faults faults
memory_never_prints faults = record { later = omega arith; risen = λ rose. absurd (never_rose faults rose); only = λ below d. cc }

-- the words of a weaving say no run
pub weaving_says_no_run : (words : List (List ℕ)) (folders : Folders) → command_of words ≡ Some folders → SayNoRun words
weaving_says_no_run [] folders is = cc
weaving_says_no_run (a ∷ []) folders is = cc
weaving_says_no_run (a ∷ b ∷ []) folders is = cc
weaving_says_no_run (a ∷ b ∷ c ∷ []) folders is = λ run says. says.1
weaving_says_no_run (a ∷ b ∷ c ∷ d ∷ words) folders is = cc
