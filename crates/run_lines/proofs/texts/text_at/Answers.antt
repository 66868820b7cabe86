use Rattle.std.proofs.Common.{ℕ, List, sym, subst}
use Rattle.std.proofs.lemmas.Result.{err_from_is_err_and}
use Rattle.run_lines.specs.Splits.{Text}
use Rattle.run_lines.specs.Lists.{IsWordAt}
use Rattle.run_lines.specs.Texts.{IsClosed, AreUnits, IsText}
use Rattle.run_lines.proofs.Refusing.{refused}
use Rattle.run_lines.proofs.TextWords.{text_made, text_inside, text_units, text_only}
use Rattle.run_lines.proofs.texts.text_at.Goals as goal

pub returns-in_err-bytes : goal.returns-in_err-bytes
returns-in_err-bytes c =
    let p = err_from_is_err_and c.from_residual.result c.from_residual.ensures.1 in
    let text = c.args.text.now in let inside = c.in-Some.inside.now in
    rw (p.1, p.2) (refused (λ (y : List ℕ × Text). IsWordAt IsText text y.0 y.1) (λ (z : Text × Text). IsClosed inside z.0 z.1) _ (λ y h. let o = text_inside text inside y.1 y.0 c.in-Some.ensures.0 h in ((o.raw, y.1), o.closed)) c.in_err-bytes.ensures)

pub returns-in_err-units : goal.returns-in_err-units
returns-in_err-units c =
    let p = err_from_is_err_and c.from_residual-in_err-units.result c.from_residual-in_err-units.ensures.1 in
    let text = c.args.text.now in let inside = c.in-Some.inside.now in
    rw (p.1, p.2) (refused (λ (y : List ℕ × Text). IsWordAt IsText text y.0 y.1) (λ (units : List ℕ). AreUnits units c.as_slice.result.now) _
    (λ y h. (y.0, subst (AreUnits y.0) (sym c.as_slice.ensures.value) (text_units text inside c.in_ok-bytes.bytes.items c.in_ok-bytes.behind.now c.in-Some.ensures.0 c.in_ok-bytes.ensures.1 y h))) c.in_err-units.ensures)

pub returns : goal.returns
returns c =
    let text = c.args.text.now in let inside = c.in-Some.inside.now in let raw = c.in_ok-bytes.bytes.items in
    let are = subst (λ (u : List ℕ). AreUnits u raw) (sym c.from_vec.ensures) (subst (AreUnits c.in_ok-units.units.items) c.as_slice.ensures.value c.in_ok-units.ensures.0) in (
      text_made text inside raw c.in_ok-bytes.behind.now c.from_vec.result c.in-Some.ensures.0 c.in_ok-bytes.ensures.0 are,
      text_only text inside raw c.in_ok-bytes.behind.now c.from_vec.result c.in-Some.ensures.0 are c.in_ok-bytes.ensures.1,
    )
