-- What is printed of a run that was observed.
use Rattle.std.proofs.Common.{◌≡◌, ℕ, List, [], ◌∷◌, ◌++◌, map, Option, Some, None, refl, ap, ◌∙◌, subst}
use Rattle.std.specs.List.{flat_map}
use Rattle.std.specs.Option.{option_map}
use Rattle.class_machine.specs.Lines.{event_text}
use Rattle.machine_values.specs.declared.observed.Event.{Event}
use Rattle.machine_values.specs.declared.observed.Ending.{Ending}
use Rattle.machine_values.specs.Observed.{machine_event, machine_ending}
use Rattle.run_driver.specs.declared.report.Report.{Report}
use Rattle.run_lines.specs.Printing.{line_of, event_line, outcome_line, run_text}
use Rattle.ajweave.specs.declared.status.Status.{Status}
use Rattle.ajweave.specs.Answers.{PrintsFor}
use Rattle.ajweave.specs.Runs.{answer_of_ending, last_line, seen_text}
use Rattle.ajweave.specs.Steps.{seen_of}

told_events : (said : List Event) → flat_map event_line said ≡ flat_map (λ event. line_of (event_text event)) (map machine_event said)
told_events [] = refl
told_events (event ∷ said) = ap (λ text. event_line event ++ text) (told_events said)

told_ending : (ending : Option Ending) → outcome_line ending ≡ last_line (option_map machine_ending ending)
told_ending None = refl
told_ending (Some ending) = refl

-- the lines of what is reported are those of what is observed
pub told : (report : Report) → run_text report.events.items report.ending ≡ seen_text (seen_of report)
told report =
    ap (λ text. text ++ outcome_line report.ending) (told_events report.events.items) ∙ ap (λ text. flat_map (λ event. line_of (event_text event)) (map machine_event report.events.items) ++ text) (told_ending report.ending)

-- the text that is printed is that of what is observed, and the answer is that of its ending
pub tells : (report : Report) (answer : Status) (said : List Event) (text slice : List ℕ) (result : Status) (before now : Option (List ℕ)) → said ≡ report.events.items → text ≡ run_text said report.ending → slice ≡ text → answer ≡ answer_of_ending (option_map machine_ending report.ending) → PrintsFor answer slice result before now → PrintsFor (answer_of_ending (option_map machine_ending report.ending)) (seen_text (seen_of report)) result before now
tells report answer said text slice result before now all whole same is printed =
    let told_so : slice ≡ seen_text (seen_of report) = same ∙ whole ∙ ap (λ (xs : List Event). run_text xs report.ending) all ∙ told report in
    subst (λ (t : List ℕ). PrintsFor (answer_of_ending (option_map machine_ending report.ending)) t result before now) told_so
    (subst (λ (s : Status). PrintsFor s slice result before now) is printed)
