use Rattle.std.proofs.Common.{ℕ, List, ap, ◌∙◌}
use Rattle.std.proofs.lemmas.Result.{err_from_is_err_and}
use Rattle.machine_values.specs.declared.script.Answer.{Answer}
use Rattle.machine_values.specs.declared.script.Answer.TheVariants as answer
use Rattle.run_lines.specs.Texts.{IsText}
use Rattle.run_lines.specs.ScriptLines.{IsThrown, IsWordedAnswer}
use Rattle.run_lines.proofs.Refusing.{refused, alike}
use Rattle.run_lines.proofs.ScriptRead.{text_from, throw_from, throw_to}
use Rattle.run_lines.proofs.script.worded_answer.Goals as goal

pub returns-in_err-read_text : goal.returns-in_err-read_text
returns-in_err-read_text c =
    let p = err_from_is_err_and c.from_residual.result c.from_residual.ensures.1 in
    let keyword = c.args.keyword.now in let words = c.args.words.now in
    rw (p.1, p.2) (refused (λ (y : Answer). IsWordedAnswer y keyword words) (λ (z : List ℕ). IsText z words) _
    (λ y h. let t = text_from y keyword words (c.is_word-3.ensures.0 c.if-is_word-3.true) h in (t.0, t.2)) c.in_err-read_text.ensures)

pub returns-then-is_word-3 : goal.returns-then-is_word-3
returns-then-is_word-3 c =
    let keyword = c.args.keyword.now in let words = c.args.words.now in
    let e = c.is_word-3.ensures.0 c.if-is_word-3.true in
    ((e, c.in_ok-read_text.ensures.0), λ y h. let t = text_from y keyword words e h in t.1 ∙ ap (λ (z : List ℕ). answer.Text z) (c.in_ok-read_text.ensures.1 t.0 t.2))

pub returns-then-is_word-4 : goal.returns-then-is_word-4
returns-then-is_word-4 c =
    let keyword = c.args.keyword.now in let words = c.args.words.now in
    let e = c.is_word-4.ensures.0 c.if-is_word-4.true in
    alike (λ (y : Answer). y) (λ (y : Answer). IsThrown y words) (λ (y : Answer). IsWordedAnswer y keyword words) (λ y h. throw_to y keyword words e h) (λ y h. throw_from y keyword words e h) c.thrown.result c.thrown.ensures
