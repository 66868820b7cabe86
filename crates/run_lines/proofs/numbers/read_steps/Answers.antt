use Rattle.std.proofs.Common.{sym, ◌∙◌}
use Rattle.std.proofs.lemmas.Bool.{false≢true}
use Rattle.run_lines.proofs.NumberWords.{steps_utf8, steps_unparsed, steps_read, steps_unread}
use Rattle.run_lines.proofs.numbers.read_steps.Goals as goal

pub returns-in_default : goal.returns-in_default
returns-in_default c = λ y h. c.in_default.ensures.cases.0 (steps_utf8 y c.args.word.now h)

pub returns-in_default-parse : goal.returns-in_default-parse
returns-in_default-parse c = steps_unparsed c.args.word.now c.in-Ok.text.now c.in-Ok.ensures.cases.0 c.in_default-parse.ensures.value.0

pub returns-then-is_word : goal.returns-then-is_word
returns-then-is_word c =
    steps_read c.args.word.now c.in-Ok.text.now c.as_bytes.result.now c.in-Ok-parse.steps c.in-Ok.ensures.cases.0 c.in-Ok-parse.ensures.value.0 (c.as_bytes.ensures.value ∙ c.format.ensures.text) (c.is_word.ensures.0 c.if-is_word.true)

pub returns-else-is_word : goal.returns-else-is_word
returns-else-is_word c =
    steps_unread c.args.word.now c.in-Ok.text.now c.as_bytes.result.now c.in-Ok-parse.steps c.in-Ok.ensures.cases.0 c.in-Ok-parse.ensures.value.0 (c.as_bytes.ensures.value ∙ c.format.ensures.text) (λ e. false≢true (sym c.if-is_word.false ∙ c.is_word.ensures.1 e))
