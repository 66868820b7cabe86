use Rattle.std.proofs.Common.{length}
use Rattle.run_lines.specs.Texts.{IsText}
use Rattle.run_lines.proofs.Listing.{IsBehind}
use Rattle.run_lines.proofs.texts.closed_texts.Given as goal

abbrev pub invariant-loop-texts : goal.invariant-loop-texts
invariant-loop-texts l = IsBehind IsText 93 l.text l.rest l.texts

abbrev pub decreases-loop-texts : goal.decreases-loop-texts
decreases-loop-texts l = length l.rest
