use Rattle.std.proofs.lemmas.Result.{err_from_is_err_and}
use Rattle.machine_values.specs.declared.script.Answer.{Answer}
use Rattle.run_lines.specs.Splits.{Text}
use Rattle.run_lines.specs.ScriptLines.{IsAnswer, IsLineAt}
use Rattle.run_lines.proofs.Refusing.{refused}
use Rattle.run_lines.proofs.ScriptRead.{line_made, answer_in, line_only}
use Rattle.run_lines.proofs.script.answer_at.Goals as goal

pub returns-in_default : goal.returns-in_default
returns-in_default c = λ y h. c.in_default.ensures (h.line, y.1) h.feed

pub returns-in_err-answer : goal.returns-in_err-answer
returns-in_err-answer c =
    let p = err_from_is_err_and c.from_residual.result c.from_residual.ensures.1 in
    let text = c.args.text.now in let line = c.in-Some.line.now in let behind = c.in-Some.behind.now in
    rw (p.1, p.2) (refused (λ (y : Answer × Text). IsLineAt text y.0 y.1) (λ (z : Answer). IsAnswer z line) _ (λ y h. (y.0, answer_in text line behind c.in-Some.ensures.0 y h)) c.in_err-answer.ensures)

pub returns : goal.returns
returns c =
    let text = c.args.text.now in let line = c.in-Some.line.now in let behind = c.in-Some.behind.now in let a = c.in_ok-answer.field-0 in
    (line_made text line behind a c.in-Some.ensures.0 c.in_ok-answer.ensures.0, line_only text line behind a c.in-Some.ensures.0 c.in_ok-answer.ensures.1)
