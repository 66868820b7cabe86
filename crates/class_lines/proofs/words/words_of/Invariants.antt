use Rattle.std.proofs.Common.{◌≡◌, drop}
use Rattle.class_lines.specs.Words.{texts}
use Rattle.class_lines.proofs.WordLists.{before, each_of}
use Rattle.class_lines.proofs.words.words_of.Given as goal

-- the words that were found, and those that are left
abbrev pub invariant-loop-word : goal.invariant-loop-word
invariant-loop-word l = each_of l.kind (texts l.words) ≡ before l.found (each_of l.kind (texts (drop l.word-index l.words)))
