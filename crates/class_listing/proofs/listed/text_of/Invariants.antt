use Rattle.std.proofs.Common.{◌≡◌, take}
use Rattle.class_listing.specs.Listing.{listing_text}
use Rattle.class_listing.proofs.listed.text_of.Given as goal

abbrev pub invariant-loop-listed : goal.invariant-loop-listed
invariant-loop-listed l = l.out.items ≡ listing_text (take l.listed-index l.listing)
