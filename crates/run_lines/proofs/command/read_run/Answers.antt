use Rattle.std.proofs.Common.{codes, sym, ◌∙◌}
use Rattle.std.proofs.lemmas.Result.{IfOk-weaker}
use Rattle.std.specs.Cmp.Lexicographic.{bytes_decides}
use Rattle.run_lines.proofs.CommandRead.{not_plain, four, five, said_four, said_five}
use Rattle.run_lines.proofs.command.read_run.Goals as goal

pub returns-then-not-are_plain : goal.returns-then-not-are_plain
returns-then-not-are_plain c = not_plain c.args.words.now (sym c.if-not-are_plain.ensures)

pub returns-in-len4 : goal.returns-in-len4
returns-in-len4 c =
    let words = four c.args.words.now c.name-item.result c.input-item.result c.entry-item.result c.steps-item.result c.in-len4.len_at_least c.in-len4.len_below c.name-item.is c.input-item.is c.entry-item.is c.steps-item.is in
    let name = sym c.as_str.ensures.value ∙ (bytes_decides c.as_str.result.now (codes "run")).0 (sym c.if-eq.ensures) in
    IfOk-weaker c.run_words.result _ _ (λ found.
    said_four c.args.words.now (sym c.if-not-are_plain.ensures) c.name-item.result c.input-item.result c.entry-item.result c.steps-item.result name
    c.as_str-in-len4.result.now c.as_str-in-len4-2.result.now c.as_str-in-len4-3.result.now c.as_str-in-len4.ensures.value c.as_str-in-len4-2.ensures.value c.as_str-in-len4-3.ensures.value
    words _ found) c.run_words.ensures

pub returns-in-len5 : goal.returns-in-len5
returns-in-len5 c =
    let words = five c.args.words.now c.name-item-then-words-lt6.result c.input-item-then-words-lt6.result c.entry-item-then-words-lt6.result c.steps-item-then-words-lt6.result c.script-item.result
    c.in-len5.len_at_least c.in-len5.len_below c.name-item-then-words-lt6.is c.input-item-then-words-lt6.is c.entry-item-then-words-lt6.is c.steps-item-then-words-lt6.is c.script-item.is in
    let name = sym c.as_str-then-words-lt6.ensures.value ∙ (bytes_decides c.as_str-then-words-lt6.result.now (codes "run")).0 (sym c.if-eq-2.ensures) in
    IfOk-weaker c.run_words-in-len5.result _ _ (λ found.
    said_five c.args.words.now (sym c.if-not-are_plain.ensures) c.name-item-then-words-lt6.result c.input-item-then-words-lt6.result c.entry-item-then-words-lt6.result c.steps-item-then-words-lt6.result name
    c.as_str-in-len5-2.result.now c.as_str-in-len5-3.result.now c.as_str-in-len5-4.result.now c.as_str-in-len5-2.ensures.value c.as_str-in-len5-3.ensures.value c.as_str-in-len5-4.ensures.value
    c.script-item.result c.as_str-in-len5.result.now c.as_str-in-len5.ensures.value words _ found) c.run_words-in-len5.ensures
