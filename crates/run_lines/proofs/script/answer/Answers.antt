use Rattle.machine_values.specs.declared.script.Answer.{Answer}
use Rattle.run_lines.specs.ScriptLines.{IsWordedAnswer, IsAnswer}
use Rattle.run_lines.proofs.Refusing.{alike}
use Rattle.run_lines.proofs.ScriptRead.{worded_made, worded, bare}
use Rattle.run_lines.proofs.script.answer.Goals as goal

pub returns-in-Some : goal.returns-in-Some
returns-in-Some c =
    let line = c.args.line.now in let keyword = c.in-Some.keyword.now in let words = c.in-Some.words.now in
    alike (λ (y : Answer). y) (λ (y : Answer). IsWordedAnswer y keyword words) (λ (y : Answer). IsAnswer y line)
    (λ y h. worded_made line keyword words y c.in-Some.ensures.0 h) (λ y h. worded line keyword words y c.in-Some.ensures.0 h) c.worded_answer.result c.worded_answer.ensures

pub returns-in-None-bare_answer : goal.returns-in-None-bare_answer
returns-in-None-bare_answer c = λ y h. c.in-None-bare_answer.ensures y (bare c.args.line.now y c.in-None.ensures h)
