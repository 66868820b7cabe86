use Rattle.std.proofs.Common.{take}
use Rattle.class_listing.specs.Walked.{AreMarks}
use Rattle.class_listing.proofs.places.marks.Given as goal

abbrev pub invariant-loop-place : goal.invariant-loop-place
invariant-loop-place l = AreMarks l.size (take l.place-index l.places) l.marks.items
