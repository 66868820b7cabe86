use Rattle.std.proofs.Common.{ℕ, List, ◌∷◌, arith}
use Rattle.std.proofs.lemmas.Result.{err_from_is_err_and}
use Rattle.run_lines.specs.Splits.{Text}
use Rattle.run_lines.specs.Lists.{IsWordAt, IsListAt}
use Rattle.run_lines.specs.Texts.{IsText}
use Rattle.run_lines.proofs.Refusing.{refused}
use Rattle.run_lines.proofs.Listing.{empty_read, behind_begins, behind_more, behind_closes, behind_only, behind_stuck, behind_leads}
use Rattle.run_lines.proofs.ArgumentWords.{unlike_text}
use Rattle.run_lines.proofs.TextWords.{one_text}
use Rattle.run_lines.proofs.texts.closed_texts.Goals as goal

pub returns-in-Some : goal.returns-in-Some
returns-in-Some c = empty_read IsText 93 unlike_text c.args.text.now c.in-Some.behind.now c.new-texts.result c.new-texts.ensures c.in-Some.ensures.0

pub loop-texts-init : goal.loop-texts-init
loop-texts-init c = behind_begins IsText 93 c.args.text.now c.new-texts.result c.new-texts.ensures c.in_default.ensures

pub returns-in_err-units : goal.returns-in_err-units
returns-in_err-units c =
    let p = err_from_is_err_and c.from_residual.result c.from_residual.ensures.1 in
    let start = c.args.text.now in let now = c.loop-texts.rest.now in
    rw (p.1, p.2) (refused (λ (y : List (List ℕ) × Text). IsListAt IsText 93 start y.0 y.1) (λ (z : (List ℕ) × Text). IsWordAt IsText now z.0 z.1) _
    (λ y l. let s = behind_leads IsText 93 start now c.loop-texts.texts c.loop-texts.invariant y l in ((s.value, s.stop ∷ s.rest), s.at)) c.in_err-units.ensures)

pub returns-in-Some-behind_byte : goal.returns-in-Some-behind_byte
returns-in-Some-behind_byte c =
    let start = c.args.text.now in let now = c.loop-texts.rest.now in let out = c.loop-texts.texts in let x = c.in_ok-units.units in
    let behind = c.in_ok-units.behind.now in let after = c.in-Some-behind_byte.behind.now in (
      behind_closes IsText 93 start now behind after out c.push.new.self x c.loop-texts.invariant c.in_ok-units.ensures.0 c.in-Some-behind_byte.ensures.0 c.in_ok-push.ensures.ok,
      behind_only IsText 93 (λ n. omega (arith, n)) start now behind after out c.push.new.self x c.loop-texts.invariant (one_text now behind x c.in_ok-units.ensures.1) c.in-Some-behind_byte.ensures.0 c.in_ok-push.ensures.ok,
    )

pub returns-in_default-behind_byte-2 : goal.returns-in_default-behind_byte-2
returns-in_default-behind_byte-2 c =
    let start = c.args.text.now in let now = c.loop-texts.rest.now in let out = c.loop-texts.texts in let x = c.in_ok-units.units in
    let behind = c.in_ok-units.behind.now in
    behind_stuck IsText 93 start now behind out x c.loop-texts.invariant (one_text now behind x c.in_ok-units.ensures.1) c.in_default-behind_byte.ensures c.in_default-behind_byte-2.ensures

pub loop-texts-preserved : goal.loop-texts-preserved
loop-texts-preserved c =
    let start = c.args.text.now in let now = c.loop-texts.rest.now in let out = c.loop-texts.texts in let x = c.in_ok-units.units in
    let behind = c.in_ok-units.behind.now in
    behind_more IsText 93 (λ n. omega (arith, n)) start now behind c.in-Some-behind_byte-2.next.now out c.push.new.self x c.loop-texts.invariant c.in_ok-units.ensures.0 (one_text now behind x c.in_ok-units.ensures.1) c.in-Some-behind_byte-2.ensures.0 c.in_ok-push.ensures.ok
