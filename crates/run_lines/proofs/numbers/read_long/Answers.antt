use Rattle.std.proofs.Common.{refl, sym, ◌∙◌}
use Rattle.std.proofs.lemmas.Bool.{false≢true}
use Rattle.std.specs.Int.{w64}
use Rattle.run_lines.proofs.NumberWords.{long_small, long_utf8, unparsed, number_read, number_unread}
use Rattle.run_lines.proofs.numbers.read_long.Goals as goal

pub returns-in_default : goal.returns-in_default
returns-in_default c = λ y h. c.in_default.ensures.cases.0 (long_utf8 y c.args.word.now h)

pub returns-in_default-parse : goal.returns-in_default-parse
returns-in_default-parse c = unparsed w64 long_small c.args.word.now c.in-Ok.text.now c.in-Ok.ensures.cases.0 c.in_default-parse.ensures.value.0

pub returns-then-is_word : goal.returns-then-is_word
returns-then-is_word c =
    number_read w64 long_small c.args.word.now c.in-Ok.text.now c.as_bytes.result.now c.in-Ok-parse.long _ c.in-Ok.ensures.cases.0 c.in-Ok-parse.ensures.value.0 refl (c.as_bytes.ensures.value ∙ c.format.ensures.text) (c.is_word.ensures.0 c.if-is_word.true)

pub returns-else-is_word : goal.returns-else-is_word
returns-else-is_word c =
    number_unread w64 long_small c.args.word.now c.in-Ok.text.now c.as_bytes.result.now c.in-Ok-parse.long _ c.in-Ok.ensures.cases.0 c.in-Ok-parse.ensures.value.0 refl (c.as_bytes.ensures.value ∙ c.format.ensures.text) (λ e. false≢true (sym c.if-is_word.false ∙ c.is_word.ensures.1 e))
