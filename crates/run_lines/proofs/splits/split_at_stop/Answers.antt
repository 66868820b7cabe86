use Rattle.std.proofs.Common.{sym, ◌∙◌}
use Rattle.run_lines.proofs.Cuts.{rest_from, stop_made, stop_only}
use Rattle.run_lines.proofs.splits.split_at_stop.Goals as goal

pub returns-then-is_stop : goal.returns-then-is_stop
returns-then-is_stop c =
    let text = c.args.text.now in
    let place = c.loop-place.place in
    let made = stop_made place text c.loop-place-test.true (sym c.is_stop.ensures ∙ c.if-is_stop.true) c.loop-place.invariant in
    (made, stop_only text _ (rest_from place text) made)
