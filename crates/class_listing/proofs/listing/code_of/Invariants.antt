use Rattle.std.proofs.Common.{◌≡◌, length}
use Rattle.class_listing.specs.Listing.{code_of}
use Rattle.class_listing.proofs.listing.code_of.Given as goal

abbrev pub invariant-loop-rest : goal.invariant-loop-rest
invariant-loop-rest l = code_of l.attributes ≡ code_of l.rest

abbrev pub decreases-loop-rest : goal.decreases-loop-rest
decreases-loop-rest l = length l.rest
