-- What a weaving answers, from how its command ended and what was printed; and what is answered where there is no command.
use Rattle.std.proofs.Common.{◌≡◌, ◌≢◌, ◌↔◌, ℕ, ◌⊎◌, inl, inr, List, [], ◌++◌, Option, Some, None, Result, Ok, Err, refl, ap, sym, ◌∙◌, subst}
use Rattle.std.specs.Prelude.{IfSome}
use Rattle.std.specs.Option.{option_map}
use Rattle.std.proofs.lemmas.List.{append-nil}
use Rattle.aj_outside.specs.Files.{Files}
use Rattle.class_file.specs.declared.types.ClassFile.{ClassFile}
use Rattle.jp_model.specs.declared.first_aspect.FirstAspect.{FirstAspect}
use Rattle.ajweave.specs.declared.status.Refusal.{Refusal}
use Rattle.ajweave.specs.declared.status.Refusal.TheVariants.{NoScript}
use Rattle.ajweave.specs.declared.status.Status.{Status}
use Rattle.ajweave.specs.declared.status.Status.TheVariants as status
use Rattle.ajweave.specs.declared.stop.Stop.{Stop}
use Rattle.ajweave.specs.declared.stop.Stop.TheVariants as stop
use Rattle.ajweave.specs.Words.{Folders, usage_line, refusal_line}
use Rattle.ajweave.specs.Answers.{AnswersPrinted, AnswersRead, AnswersDone, IsRefused, IsOfWeaving, IsValid, Wrote, WritesWeaving, BehavesAsWritten, WritesExactly, WritesUntouched, WritesDeclared, OnTold, Commanded, CommandedTo, CommandedSome, KeepsShelf, IsDue, PrintsPart, Prints, PrintsFor}
use Rattle.ajweave.specs.Runs.{IsOfRun}
use Rattle.ajweave.specs.Steps.{OnStop, IsWeavingStop, Ends, Reports}
use Rattle.ajweave.proofs.Refusals.{IsRefused-same, IsValid-never_refused}

abbrev pub Ended : Type 0
Ended = Result (Unit {0}) Stop

abbrev pub Text : Type 0
Text = Option (List ℕ)

abbrev some_text : List ℕ → Text
some_text text = Some text

abbrev refused : Refusal → Status
refused refusal = status.Refused refusal

refused-same : (a b : Refusal) → refused a ≡ refused b → a ≡ b
refused-same a b h = cc

-- ---- one weaving has each of the views

Wrote-weaker : (P Q : List ClassFile → List FirstAspect → List ClassFile → Type 0) → ((c : List ClassFile) (a : List FirstAspect) (w : List ClassFile) → P c a w → Q c a w) → (folders : Folders) (before after : Files) → Wrote P folders before after → Wrote Q folders before after
Wrote-weaker P Q f folders before after h = record {
  classes = h.classes;
  aspects = h.aspects;
  written = h.written;
  reads = h.reads;
  files = h.files;
  holds = f h.classes h.aspects h.written h.holds;
}

CommandedTo-weaker : (P Q : Folders → Files → Files → Type 0) → ((f : Folders) (b a : Files) → P f b a → Q f b a) → (command : Option Folders) (before after : Option Files) → CommandedTo command before after P → CommandedTo command before after Q
CommandedTo-weaker P Q f None before after h = absurd h
CommandedTo-weaker P Q f (Some folders) None after h = h
CommandedTo-weaker P Q f (Some folders) (Some before) None h = absurd h
CommandedTo-weaker P Q f (Some folders) (Some before) (Some after) h = f folders before after h

pub behaves_by : (command : Option Folders) (before after : Option Files) → CommandedTo command before after WritesWeaving → CommandedTo command before after BehavesAsWritten
behaves_by = CommandedTo-weaker WritesWeaving BehavesAsWritten (Wrote-weaker _ _ (λ c a w h. h.behaves))

pub written_by : (command : Option Folders) (before after : Option Files) → CommandedTo command before after WritesWeaving → CommandedTo command before after WritesExactly
written_by = CommandedTo-weaker WritesWeaving WritesExactly (Wrote-weaker _ _ (λ c a w h. h.extended))

pub untouched_by : (command : Option Folders) (before after : Option Files) → CommandedTo command before after WritesWeaving → CommandedTo command before after WritesUntouched
untouched_by = CommandedTo-weaker WritesWeaving WritesUntouched (Wrote-weaker _ _ (λ c a w h. h.untouched))

pub declared_by : (command : Option Folders) (before after : Option Files) → CommandedTo command before after WritesWeaving → CommandedTo command before after WritesDeclared
declared_by = CommandedTo-weaker WritesWeaving WritesDeclared (Wrote-weaker _ _ (λ c a w h. h.declared))

-- ---- an answer after a command

-- the cases of how a command ended and of what was answered
after_command : (P : Ended → Status → Type 0) → ((x : Unit {0}) → P (Ok x) status.Done) → P (Err stop.Read) status.ReadFault → P (Err stop.Write) status.WriteFault → P (Err stop.Memory) status.OutOfMemory → ((refusal : Refusal) → P (Err (stop.Refused refusal)) (status.Refused refusal)) → ((refusal : Refusal) → P (Err (stop.Refused refusal)) status.PrintFault) → ((refusal : Refusal) → P (Err (stop.Refused refusal)) status.OutOfMemory) → (ended : Ended) (result : Status) (before now : Text) → Reports ended result before now → P ended result
after_command P done read write memory refused unprinted unmade (Ok x) result before now r = subst (P (Ok x)) (sym r.0) (done x)
after_command P done read write memory refused unprinted unmade (Err stop.Read) result before now r = subst (P (Err stop.Read)) (sym r.0) read
after_command P done read write memory refused unprinted unmade (Err stop.Write) result before now r = subst (P (Err stop.Write)) (sym r.0) write
after_command P done read write memory refused unprinted unmade (Err stop.Memory) result before now r = subst (P (Err stop.Memory)) (sym r.0) memory
after_command P done read write memory refused unprinted unmade (Err (stop.Refused refusal)) result before now r = by r
  where
    by : PrintsFor (status.Refused refusal) (refusal_line refusal) result before now → P (Err (stop.Refused refusal)) result
    by (inl p) = subst (P (Err (stop.Refused refusal))) (sym p.0) (refused refusal)
    by (inr (inl e, q)) = subst (P (Err (stop.Refused refusal))) (sym e) (unprinted refusal)
    by (inr (inr e, q)) = subst (P (Err (stop.Refused refusal))) (sym e) (unmade refusal)

pub done_ended : (folders : Folders) (held held_now : Option Files) (ended : Ended) (result : Status) (before now : Text) → Reports ended result before now → Ends ended folders held held_now → result ≡ status.Done → CommandedTo (Some folders) held held_now WritesWeaving × IfSome held (λ files. IsValid folders.input files)
done_ended folders held held_now =
    after_command (λ ended result. Ends ended folders held held_now → result ≡ status.Done → CommandedTo (Some folders) held held_now WritesWeaving × IfSome held (λ files. IsValid folders.input files))
    (λ x e d. e) (λ e d. cc) (λ e d. cc) (λ e d. cc) (λ refusal e d. cc) (λ refusal e d. cc) (λ refusal e d. cc)

pub done_valid : (folders : Folders) (held : Option Files) → IfSome held (λ files. IsValid folders.input files) → Commanded (Some folders) held (λ folders files. IsValid folders.input files)
done_valid folders None h = tt
done_valid folders (Some files) h = h

pub command_never_usage : (ended : Ended) (result : Status) (before now : Text) → Reports ended result before now → result ≡ status.Usage → ⊥
command_never_usage =
    after_command (λ ended result. result ≡ status.Usage → ⊥) (λ x d. cc) (λ d. cc) (λ d. cc) (λ d. cc) (λ refusal d. cc) (λ refusal d. cc) (λ refusal d. cc)

pub read_ended : (ended : Ended) (result : Status) (before now : Text) → Reports ended result before now → (result ≡ status.ReadFault) ↔ (ended ≡ Err stop.Read)
read_ended =
    after_command (λ ended result. (result ≡ status.ReadFault) ↔ (ended ≡ Err stop.Read))
    (λ x. (λ d. cc, λ d. cc)) (λ d. refl, λ d. refl) (λ d. cc, λ d. cc) (λ d. cc, λ d. cc) (λ refusal. (λ d. cc, λ d. cc)) (λ refusal. (λ d. cc, λ d. cc)) (λ refusal. (λ d. cc, λ d. cc))

pub write_ended : (ended : Ended) (result : Status) (before now : Text) → Reports ended result before now → (result ≡ status.WriteFault) ↔ (ended ≡ Err stop.Write)
write_ended =
    after_command (λ ended result. (result ≡ status.WriteFault) ↔ (ended ≡ Err stop.Write))
    (λ x. (λ d. cc, λ d. cc)) (λ d. cc, λ d. cc) (λ d. refl, λ d. refl) (λ d. cc, λ d. cc) (λ refusal. (λ d. cc, λ d. cc)) (λ refusal. (λ d. cc, λ d. cc)) (λ refusal. (λ d. cc, λ d. cc))

abbrev RefusedFor : Folders → Option Files → Status → Type 0
RefusedFor folders held result =
    OnTold (Some folders) held (λ folders files. (refusal : Refusal) → IsRefused folders.input files refusal → AnswersRead (status.Refused refusal) result)

pub refused_ended : (folders : Folders) (held held_now : Option Files) (ended : Ended) (result : Status) (before now : Text) → Reports ended result before now → Ends ended folders held held_now → RefusedFor folders held result
refused_ended folders None held_now ended result before now r e = tt
refused_ended folders (Some files) held_now ended result before now r e =
    after_command (λ ended result. Ends ended folders (Some files) held_now → (refusal : Refusal) → IsRefused folders.input files refusal → AnswersRead (status.Refused refusal) result)
    (λ x e refusal h. absurd (IsValid-never_refused folders.input files refusal e.1 h))
    (λ e refusal h. inl refl)
    (λ e refusal h. absurd (IsValid-never_refused folders.input files refusal e.1 h))
    (λ e refusal h. inr (inr (inr refl)))
    (λ other e refusal h. inr (inl (ap refused (IsRefused-same folders.input files other refusal e.1 h))))
    (λ other e refusal h. inr (inr (inl refl)))
    (λ other e refusal h. inr (inr (inr refl)))
    ended result before now r e

pub refused_only_ended : (folders : Folders) (held held_now : Option Files) (ended : Ended) (result : Status) (before now : Text) → Reports ended result before now → Ends ended folders held held_now → (refusal : Refusal) → result ≡ status.Refused refusal → Commanded (Some folders) held (λ folders files. IsRefused folders.input files refusal)
refused_only_ended folders None held_now ended result before now r e refusal is = tt
refused_only_ended folders (Some files) held_now ended result before now r e refusal is =
    after_command (λ ended result. Ends ended folders (Some files) held_now → result ≡ status.Refused refusal → IsRefused folders.input files refusal)
    (λ x e d. cc) (λ e d. cc) (λ e d. cc) (λ e d. cc)
    (λ other e d. subst (IsRefused folders.input files) (refused-same other refusal d) e.1)
    (λ other e d. cc) (λ other e d. cc)
    ended result before now r e is

pub complete_ended : (folders : Folders) (held held_now : Option Files) (ended : Ended) (result : Status) (before now : Text) → Reports ended result before now → Ends ended folders held held_now → OnTold (Some folders) held (λ folders files. IsValid folders.input files → AnswersDone result)
complete_ended folders None held_now ended result before now r e = tt
complete_ended folders (Some files) held_now ended result before now r e =
    after_command (λ ended result. Ends ended folders (Some files) held_now → IsValid folders.input files → AnswersDone result)
    (λ x e v. inl refl)
    (λ e v. inr (inl refl))
    (λ e v. inr (inr (inl refl)))
    (λ e v. inr (inr (inr refl)))
    (λ refusal e v. absurd (IsValid-never_refused folders.input files refusal v e.1))
    (λ refusal e v. absurd (IsValid-never_refused folders.input files refusal v e.1))
    (λ refusal e v. inr (inr (inr refl)))
    ended result before now r e

pub kept_ended : (folders : Folders) (held held_now : Option Files) (ended : Ended) (result : Status) (before now : Text) → Reports ended result before now → Ends ended folders held held_now → KeepsShelf result held held_now
kept_ended folders held held_now =
    after_command (λ ended result. Ends ended folders held held_now → KeepsShelf result held held_now)
    (λ x e. tt) (λ e. e) (λ e. tt) (λ e. tt) (λ refusal e. e.0) (λ refusal e. e.0) (λ refusal e. tt)

pub some_ended : (folders : Folders) (held held_now : Option Files) (ended : Ended) (result : Status) (before now : Text) → Reports ended result before now → Ends ended folders held held_now → result ≡ status.WriteFault → CommandedSome (Some folders) held held_now
some_ended folders held held_now =
    after_command (λ ended result. Ends ended folders held held_now → result ≡ status.WriteFault → CommandedSome (Some folders) held held_now)
    (λ x e d. cc) (λ e d. cc) (λ e d. e.0) (λ e d. cc) (λ refusal e d. cc) (λ refusal e d. cc) (λ refusal e d. cc)

pub memory_ended : (folders : Folders) (held held_now : Option Files) (ended : Ended) (result : Status) (before now : Text) → Reports ended result before now → Ends ended folders held held_now → result ≡ status.OutOfMemory → (held_now ≡ held) ⊎ CommandedSome (Some folders) held held_now
memory_ended folders held held_now =
    after_command (λ ended result. Ends ended folders held held_now → result ≡ status.OutOfMemory → (held_now ≡ held) ⊎ CommandedSome (Some folders) held held_now)
    (λ x e d. cc) (λ e d. cc) (λ e d. cc) (λ e d. e) (λ refusal e d. cc) (λ refusal e d. cc) (λ refusal e d. inl e.0)

-- it is none of a run's answers
pub command_never_observed : (ended : Ended) (result : Status) (before now : Text) → Reports ended result before now → IsOfRun result → ⊥
command_never_observed =
    after_command (λ ended result. IsOfRun result → ⊥) (λ x i. i) (λ i. i) (λ i. i) (λ i. i) (λ refusal i. i) (λ refusal i. i) (λ refusal i. i)

-- a refusal is one that a weaving has
pub own_ended : (ended : Ended) (result : Status) (before now : Text) → Reports ended result before now → OnStop ended IsWeavingStop → (refusal : Refusal) → result ≡ refused refusal → IsOfWeaving refusal
own_ended =
    after_command (λ ended result. OnStop ended IsWeavingStop → (refusal : Refusal) → result ≡ refused refusal → IsOfWeaving refusal)
    (λ x own refusal d. cc) (λ own refusal d. cc) (λ own refusal d. cc) (λ own refusal d. cc)
    (λ other own refusal d. subst IsOfWeaving (refused-same other refusal d) own)
    (λ other own refusal d. cc) (λ other own refusal d. cc)

-- no file of a script is missing
pub command_never_unscripted : (name : List ℕ) (ended : Ended) (result : Status) (before now : Text) → Reports ended result before now → OnStop ended IsWeavingStop → result ≢ refused (NoScript name)
command_never_unscripted name ended result before now r own d = own_ended ended result before now r own (NoScript name) d

-- the shelf holds what it held
pub kept_always : (result : Status) (held held_now : Option Files) → held_now ≡ held → KeepsShelf result held held_now
kept_always status.Done held held_now same = tt
kept_always (status.Refused refusal) held held_now same = same
kept_always status.Usage held held_now same = same
kept_always status.ReadFault held held_now same = same
kept_always status.WriteFault held held_now same = tt
kept_always status.PrintFault held held_now same = same
kept_always status.OutOfMemory held held_now same = tt
kept_always status.Returned held held_now same = same
kept_always status.Uncaught held held_now same = same
kept_always status.InitFailed held held_now same = same
kept_always status.Exit held held_now same = same
kept_always status.Unmodelled held held_now same = same
kept_always status.Unresolved held held_now same = same
kept_always status.Broken held held_now same = same
kept_always status.StepsSpent held held_now same = same
kept_always status.ScriptEnds held held_now same = same

-- ---- what was printed

printed_nothing : (before now : Text) → now ≡ before → now ≡ option_map (λ text. text ++ []) before
printed_nothing None now same = same
printed_nothing (Some text) now same = same ∙ ap (λ (t : List ℕ). some_text t) (sym (append-nil text))

prints_for : (command : Option Folders) (held : Option Files) (answer : Status) (text : List ℕ) (result : Status) (before now : Text) → IsDue command held text → (now ≡ option_map (λ written. written ++ text) before → Prints answer command held before now) → PrintsFor answer text result before now → Prints result command held before now
prints_for command held answer text result before now due whole (inl p) = subst (λ (s : Status). Prints s command held before now) (sym p.0) (whole p.1)
prints_for command held answer text result before now due whole (inr (e, inl same)) = part e (inl same)
  where
    part : (result ≡ status.PrintFault) ⊎ (result ≡ status.OutOfMemory) → PrintsPart command held before now → Prints result command held before now
    part (inl e) p = subst (λ (s : Status). Prints s command held before now) (sym e) p
    part (inr e) p = subst (λ (s : Status). Prints s command held before now) (sym e) p
prints_for command held answer text result before now due whole (inr (e, inr some)) = part e (inr (text, due, some))
  where
    part : (result ≡ status.PrintFault) ⊎ (result ≡ status.OutOfMemory) → PrintsPart command held before now → Prints result command held before now
    part (inl e) p = subst (λ (s : Status). Prints s command held before now) (sym e) p
    part (inr e) p = subst (λ (s : Status). Prints s command held before now) (sym e) p

pub printed_ended : (folders : Folders) (held held_now : Option Files) (ended : Ended) (result : Status) (before now : Text) → Reports ended result before now → Ends ended folders held held_now → Prints result (Some folders) held before now
printed_ended folders held held_now (Ok x) result before now r e =
    subst (λ (s : Status). Prints s (Some folders) held before now) (sym r.0) (printed_nothing before now r.1)
printed_ended folders held held_now (Err stop.Read) result before now r e =
    subst (λ (s : Status). Prints s (Some folders) held before now) (sym r.0) (printed_nothing before now r.1)
printed_ended folders held held_now (Err stop.Write) result before now r e =
    subst (λ (s : Status). Prints s (Some folders) held before now) (sym r.0) (printed_nothing before now r.1)
printed_ended folders held held_now (Err stop.Memory) result before now r e =
    subst (λ (s : Status). Prints s (Some folders) held before now) (sym r.0) (inl r.1)
printed_ended folders held held_now (Err (stop.Refused refusal)) result before now r e =
    prints_for (Some folders) held (status.Refused refusal) (refusal_line refusal) result before now (refusal, refl, e.1) (λ p. p) r

-- ---- the answer where there is no command

-- the cases of the answer
without_command : (P : Status → Type 0) → P status.Usage → P status.PrintFault → P status.OutOfMemory → (result : Status) (before now : Text) → PrintsFor status.Usage usage_line result before now → P result
without_command P usage unprinted unmade result before now (inl p) = subst P (sym p.0) usage
without_command P usage unprinted unmade result before now (inr (inl e, q)) = subst P (sym e) unprinted
without_command P usage unprinted unmade result before now (inr (inr e, q)) = subst P (sym e) unmade

pub usage_answers : (result : Status) (before now : Text) → PrintsFor status.Usage usage_line result before now → AnswersPrinted status.Usage result
usage_answers = without_command (AnswersPrinted status.Usage) (inl refl) (inr (inl refl)) (inr (inr refl))

-- it is none of the other answers
pub usage_never : (result : Status) (before now : Text) → PrintsFor status.Usage usage_line result before now → (result ≢ status.Done) × (result ≢ status.ReadFault) × (result ≢ status.WriteFault) × ((refusal : Refusal) → result ≢ status.Refused refusal)
usage_never =
    without_command (λ result. (result ≢ status.Done) × (result ≢ status.ReadFault) × (result ≢ status.WriteFault) × ((refusal : Refusal) → result ≢ status.Refused refusal))
    (λ d. cc, λ d. cc, λ d. cc, λ refusal d. cc) (λ d. cc, λ d. cc, λ d. cc, λ refusal d. cc) (λ d. cc, λ d. cc, λ d. cc, λ refusal d. cc)

-- it is no answer of a run
pub usage_never_observed : (result : Status) (before now : Text) → PrintsFor status.Usage usage_line result before now → IsOfRun result → ⊥
usage_never_observed = without_command (λ result. IsOfRun result → ⊥) (λ i. i) (λ i. i) (λ i. i)

pub usage_printed : (held : Option Files) (result : Status) (before now : Text) → PrintsFor status.Usage usage_line result before now → Prints result None held before now
usage_printed held result before now r = prints_for None held status.Usage usage_line result before now refl (λ p. p) r
