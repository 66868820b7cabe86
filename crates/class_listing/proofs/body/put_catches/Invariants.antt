use Rattle.std.proofs.Common.{◌≡◌, ◌++◌, take}
use Rattle.std.specs.Prelude.{map}
use Rattle.class_listing.specs.declared.listed.Listed.{Listed}
use Rattle.class_listing.specs.Steps.{catch_line}
use Rattle.class_listing.proofs.body.put_catches.Given as goal

abbrev pub invariant-loop-entry : goal.invariant-loop-entry
invariant-loop-entry l = l.listing ≡ l.fn.listing ++ map Listed.Line (map (catch_line l.pool) (take l.entry-index l.entries))
