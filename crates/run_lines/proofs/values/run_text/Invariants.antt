use Rattle.std.proofs.Common.{◌≡◌, take}
use Rattle.std.specs.List.{flat_map}
use Rattle.run_lines.specs.Printing.{event_line}
use Rattle.run_lines.proofs.values.run_text.Given as goal

abbrev pub invariant-loop-event : goal.invariant-loop-event
invariant-loop-event l = l.text.items ≡ flat_map event_line (take l.event-index l.events)
