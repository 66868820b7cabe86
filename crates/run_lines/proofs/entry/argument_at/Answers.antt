use Rattle.std.proofs.Common.{◌≡◌, ℕ, List, ◌∷◌, sym, ◌∙◌}
use Rattle.std.proofs.lemmas.Result.{err_from_is_err_and}
use Rattle.machine_values.specs.declared.script.EntryArg.{EntryArg}
use Rattle.run_lines.specs.Splits.{Text}
use Rattle.run_lines.specs.Lists.{IsWordAt, IsListAt}
use Rattle.run_lines.specs.Texts.{IsText}
use Rattle.run_lines.specs.Arguments.{IsEndedAt}
use Rattle.run_lines.proofs.Refusing.{refused, found_some, found_none}
use Rattle.run_lines.proofs.ArgumentWords.{texts_leads, texts_read, text_leads, text_read, plain_leads, plain_at, plain_read}
use Rattle.run_lines.proofs.entry.argument_at.Goals as goal

pub returns-in_err-texts : goal.returns-in_err-texts
returns-in_err-texts c =
    let p = err_from_is_err_and c.from_residual.result c.from_residual.ensures.1 in
    let text = c.args.text.now in let inside = c.in-Some.texts.now in
    rw (p.1, p.2) (refused (λ (y : EntryArg × Text). IsEndedAt text y.0 y.1) (λ (z : List (List ℕ) × Text). IsListAt IsText 93 inside z.0 z.1) _
    (λ y h. let l = texts_leads text inside y.1 y.0 c.in-Some.ensures.0 h.at in ((l.texts, y.1), l.listed)) c.in_err-texts.ensures)

pub returns-in-Some : goal.returns-in-Some
returns-in-Some c = texts_read c.args.text.now c.in-Some.texts.now c.in_ok-texts.behind.now c.in_ok-texts.texts c.in-Some.ensures.0 c.in_ok-texts.ensures.0 c.in_ok-texts.ensures.1

pub returns-in_err-units : goal.returns-in_err-units
returns-in_err-units c =
    let p = err_from_is_err_and c.from_residual-in_err-units.result c.from_residual-in_err-units.ensures.1 in
    let text = c.args.text.now in
    let opens = found_some _ (λ (behind : Text). text ≡ 34 ∷ behind) c.behind_byte-2.result (sym c.is_some.ensures ∙ c.if-is_some.true) c.behind_byte-2.ensures in
    rw (p.1, p.2) (refused (λ (y : EntryArg × Text). IsEndedAt text y.0 y.1) (λ (z : List ℕ × Text). IsWordAt IsText text z.0 z.1) _
    (λ y h. let q = text_leads text opens.0 y.1 y.0 opens.1 h.at in ((q.units, y.1), q.at)) c.in_err-units.ensures)

pub returns-then-is_some : goal.returns-then-is_some
returns-then-is_some c =
    let text = c.args.text.now in
    let opens = found_some _ (λ (behind : Text). text ≡ 34 ∷ behind) c.behind_byte-2.result (sym c.is_some.ensures ∙ c.if-is_some.true) c.behind_byte-2.ensures in
    text_read text opens.0 c.in_ok-units.behind.now c.in_ok-units.units opens.1 c.in_ok-units.ensures.0 c.in_ok-units.ensures.1

pub returns-in_default-split_at_stop : goal.returns-in_default-split_at_stop
returns-in_default-split_at_stop c =
    let text = c.args.text.now in
    let unquoted = found_none _ (λ (behind : Text). text ≡ 34 ∷ behind) c.behind_byte-2.result (sym c.is_some.ensures ∙ c.if-is_some.false) c.behind_byte-2.ensures in
    λ y h. let p = plain_leads text y.1 y.0 c.in_default.ensures unquoted h in c.in_default-split_at_stop.ensures (p.word, y.1) p.split

pub returns-in-Some-plain_argument : goal.returns-in-Some-plain_argument
returns-in-Some-plain_argument c =
    let text = c.args.text.now in
    let unquoted = found_none _ (λ (behind : Text). text ≡ 34 ∷ behind) c.behind_byte-2.result (sym c.is_some.ensures ∙ c.if-is_some.false) c.behind_byte-2.ensures in
    plain_read text c.in-Some-split_at_stop.word.now c.in-Some-split_at_stop.behind.now c.in-Some-plain_argument.arg c.in_default.ensures unquoted
    c.in-Some-split_at_stop.ensures.0 c.in-Some-split_at_stop.ensures.1 c.in-Some-plain_argument.ensures.0 c.in-Some-plain_argument.ensures.1

pub returns-in-None : goal.returns-in-None
returns-in-None c =
    let text = c.args.text.now in
    let unquoted = found_none _ (λ (behind : Text). text ≡ 34 ∷ behind) c.behind_byte-2.result (sym c.is_some.ensures ∙ c.if-is_some.false) c.behind_byte-2.ensures in
    λ y h. c.in-None.ensures y.0 (plain_at text c.in-Some-split_at_stop.word.now c.in-Some-split_at_stop.behind.now c.in_default.ensures unquoted c.in-Some-split_at_stop.ensures.1 y h).0
