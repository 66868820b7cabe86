use Rattle.std.proofs.Common.{◌+◌}
use Rattle.run_lines.proofs.Cuts.{rest_from, first_made, first_only}
use Rattle.run_lines.proofs.splits.split_at_first.Goals as goal

pub returns-then-found-byte : goal.returns-then-found-byte
returns-then-found-byte c =
    let text = c.args.text.now in
    let place = c.loop-place.place in
    let made = first_made c.args.byte place text c.loop-place-test.true c.if-found-byte.true c.loop-place.invariant in
    (made, first_only c.args.byte text _ (rest_from (place + 1) text) made)
