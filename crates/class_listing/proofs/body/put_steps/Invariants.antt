use Rattle.std.proofs.Common.{◌≡◌, ◌++◌, take}
use Rattle.std.specs.Prelude.{map}
use Rattle.class_listing.specs.declared.listed.Listed.{Listed}
use Rattle.class_listing.specs.Steps.{step}
use Rattle.class_listing.specs.Walked.{placed_of}
use Rattle.class_listing.proofs.body.put_steps.Given as goal

abbrev pub invariant-loop-step : goal.invariant-loop-step
invariant-loop-step l = l.listing ≡ l.fn.listing ++ map Listed.Line (map (step l.pool l.code l.places) (map placed_of (take l.step-index l.steps)))
