use Rattle.std.specs.Prelude.{map}
use Rattle.class_listing.specs.Walked.{placed_of}
use Rattle.class_listing.proofs.Lists.{on_ok, body_put}
use Rattle.class_listing.proofs.body.put_lines.Goals as goal

pub returns : goal.returns
returns c =
    on_ok c.put_catches.result c.put_catches.ensures (λ e.
    body_put c.args.pool.now c.args.code.now (map placed_of c.args.steps.now) c.as_slice-bytes.result.now c.as_slice-entries.result.now c.in_ok-places.places.items c.as_slice.result.now
    c.args.listing.now c.put_steps.new.listing c.put_catches.new.listing
    c.as_slice-bytes.ensures c.as_slice-entries.ensures c.in_ok-places.ensures c.as_slice.ensures.value c.in_ok-put_steps.ensures e)
