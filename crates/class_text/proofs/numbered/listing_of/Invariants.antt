use Rattle.std.proofs.Common.{◌≡◌, ◌+◌, ◌≤◌, ◌++◌, length}
use Rattle.class_text.specs.Texts.{lines, numbered}
use Rattle.class_text.proofs.numbered.listing_of.Given as goal

abbrev pub invariant-loop-rest : goal.invariant-loop-rest
invariant-loop-rest l = record {
  listed : numbered 1 (lines l.text) ≡ l.found ++ numbered l.number (lines l.rest);
  counted : length (lines l.text) + 1 ≡ length (lines l.rest) + l.number;
  within : l.number + length l.rest ≤ length l.text + 1;
}

abbrev pub decreases-loop-rest : goal.decreases-loop-rest
decreases-loop-rest l = length l.rest
