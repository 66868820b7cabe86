use Rattle.std.proofs.Common.{◌≡◌, take}
use Rattle.std.specs.Prelude.{map}
use Rattle.std.specs.List.{flat_map}
use Rattle.class_listing.specs.Steps.{leads_to}
use Rattle.class_listing.specs.Walked.{placed_of}
use Rattle.class_listing.proofs.places.all_leads.Given as goal

abbrev pub invariant-loop-step : goal.invariant-loop-step
invariant-loop-step l = l.places.items ≡ flat_map (leads_to l.code) (map placed_of (take l.step-index l.steps))
