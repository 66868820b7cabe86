use Rattle.std.proofs.Common.{arith, rules}
use Rattle.class_lines.proofs.WordLists.{word_fails, words_end}
use Rattle.class_lines.proofs.words.words_of.Goals as goal

pub returns-then-not-fits : goal.returns-then-not-fits
returns-then-not-fits c = word_fails c.args.kind c.args.words.now c.loop-word.found c.loop-word.word-index _ c.fits.result c.fits.ensures (omega arith) c.loop-word.invariant (search rules)

pub returns : goal.returns
returns c = words_end c.args.kind c.args.words.now c.loop-word.found c.loop-word.word-index (omega arith) c.loop-word.invariant
