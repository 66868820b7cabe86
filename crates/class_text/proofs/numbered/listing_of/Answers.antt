use Rattle.std.proofs.Common.{rules}
use Rattle.class_text.proofs.LineLists.{listing_goes_on, shorter_behind}
use Rattle.class_text.proofs.numbered.listing_of.Goals as goal

pub loop-rest-smaller : goal.loop-rest-smaller
loop-rest-smaller c = shorter_behind c.loop-rest.rest.now c.split_line.result.1.now (search rules) c.split_line.ensures.behind

pub loop-rest-preserved : goal.loop-rest-preserved
loop-rest-preserved c =
    let before = c.loop-rest.invariant in
    let after = listing_goes_on c.args.text.now c.loop-rest.number c.loop-rest.found c.add.new.found c.loop-rest.rest.now c.split_line.result.0.now c.split_line.result.1.now c.in_ok-said.said
    (record { listed = before.listed; counted = before.counted; within = before.within }) (search rules) c.split_line.ensures.run c.split_line.ensures.behind c.in_ok-said.ensures c.in_ok-add.ensures in
    record { listed = after.listed; counted = after.counted; within = after.within }
