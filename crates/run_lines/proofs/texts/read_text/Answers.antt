use Rattle.std.proofs.Common.{ℕ, List, []}
use Rattle.std.proofs.lemmas.Result.{err_from_is_err_and}
use Rattle.run_lines.specs.Splits.{Text}
use Rattle.run_lines.specs.Lists.{IsWordAt}
use Rattle.run_lines.specs.Texts.{IsText}
use Rattle.run_lines.proofs.Refusing.{refused, emptied, not_emptied, left, right}
use Rattle.run_lines.proofs.TextWords.{whole_at, at_whole}
use Rattle.run_lines.proofs.texts.read_text.Goals as goal

pub returns-in_err-units : goal.returns-in_err-units
returns-in_err-units c =
    let p = err_from_is_err_and c.from_residual.result c.from_residual.ensures.1 in
    let word = c.args.word.now in
    rw (p.1, p.2) (refused (λ (y : List ℕ). IsText y word) (λ (z : List ℕ × Text). IsWordAt IsText word z.0 z.1) _ (λ y t. ((y, []), whole_at word y t)) c.in_err-units.ensures)

pub returns-then-is_empty : goal.returns-then-is_empty
returns-then-is_empty c =
    let word = c.args.word.now in let units = c.in_ok-units.units in let behind = c.in_ok-units.behind.now in (
      at_whole word behind units (emptied behind c.is_empty.result c.is_empty.ensures c.if-is_empty.true) c.in_ok-units.ensures.0,
      λ y t. left units y behind [] (c.in_ok-units.ensures.1 (y, []) (whole_at word y t)),
    )

pub returns-else-is_empty : goal.returns-else-is_empty
returns-else-is_empty c = λ y t.
    let word = c.args.word.now in let units = c.in_ok-units.units in let behind = c.in_ok-units.behind.now in
    not_emptied behind c.is_empty.result c.is_empty.ensures c.if-is_empty.false (right units y behind [] (c.in_ok-units.ensures.1 (y, []) (whole_at word y t)))
