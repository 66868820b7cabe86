use Rattle.std.proofs.Common.{◌≡◌, ◌++◌, take}
use Rattle.class_lines.specs.Printing.{all_spaced}
use Rattle.class_lines.proofs.printing.put_words.Given as goal

abbrev pub invariant-loop-word : goal.invariant-loop-word
invariant-loop-word l = l.out.items ≡ l.fn.out.items ++ all_spaced (take l.word-index l.words)
