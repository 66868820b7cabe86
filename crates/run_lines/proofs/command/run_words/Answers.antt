use Rattle.std.proofs.Common.{List, ℕ, Bor, refl, sym, subst}
use Rattle.std.specs.Option.{option_map}
use Rattle.std.specs.Prelude.{Option}
use Rattle.run_lines.specs.declared.entry.EntryWords.{EntryWords}
use Rattle.run_lines.specs.EntryWord.{IsEntryWord}
use Rattle.run_lines.specs.CommandWords.{RunCommand}
use Rattle.run_lines.specs.Numbers.{IsSteps}
use Rattle.run_lines.specs.Reading.{Finds}
use Rattle.run_lines.specs.Splits.{Text}
use Rattle.run_lines.proofs.CommandRead.{one_run}
use Rattle.run_lines.proofs.command.run_words.Goals as goal

pub returns-in_default-2 : goal.returns-in_default-2
returns-in_default-2 c =
    let none = subst (λ (o : Option EntryWords). Finds (λ (e : EntryWords). e) (λ (e : EntryWords). IsEntryWord e c.as_bytes-2.result.now) o) c.in_default-2.is c.in_ok-entry.ensures in
    λ y h. none y.entry (subst (IsEntryWord y.entry) (sym c.as_bytes-2.ensures.value) h.is_entry)

pub returns : goal.returns
returns c =
    let some = subst (λ (o : Option EntryWords). Finds (λ (e : EntryWords). e) (λ (e : EntryWords). IsEntryWord e c.as_bytes-2.result.now) o) c.in-Some-2.is c.in_ok-entry.ensures in
    let run : RunCommand = record { input = c.args.input.now; word = c.args.word.now; entry = c.in-Some-2.entry; steps = c.in-Some.steps; script = option_map {U = Text} (λ (name : Bor (List ℕ)). name.now) c.args.script } in
    let entry = c.as_bytes-2.ensures.value in
    let steps = c.as_bytes.ensures.value in (
      record {
        folder = refl;
        same_word = refl;
        is_entry = subst (IsEntryWord run.entry) entry some.0;
        are_steps = subst (IsSteps run.steps) steps c.in-Some.ensures.0;
        file = refl;
      },
      one_run run c.args.steps.now (λ e is. some.1 e (subst (IsEntryWord e) (sym entry) is)) (λ n is. c.in-Some.ensures.1 n (subst (IsSteps n) (sym steps) is)),
    )
