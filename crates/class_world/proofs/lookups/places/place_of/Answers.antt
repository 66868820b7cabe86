use Rattle.std.proofs.Common.{◌+◌, ◌-◌, ◌<◌, ◌/◌, length, arith, sym, ◌∙◌}
use Rattle.class_world.proofs.Positions.{less_before, greater_behind, found_in_order, not_in_order}
use Rattle.class_world.proofs.lookups.places.place_of.Goals as goal

pub loop-low-preserved-in-Less : goal.loop-low-preserved-in-Less
loop-low-preserved-in-Less c =
    let middle = c.loop-low.low + (c.loop-low.high - c.loop-low.low) / 2 in
    let within : middle < length c.args.names.now = omega arith in
    record {
      order = omega arith;
      within = omega arith;
      below = less_before c.args.heads.now c.args.names.now c.requires c.args.name.now middle within (sym c.compare_at.ensures ∙ c.in-Less.is);
      above = c.loop-low.invariant.above;
    }

pub returns-in-Equal : goal.returns-in-Equal
returns-in-Equal c =
    let middle = c.loop-low.low + (c.loop-low.high - c.loop-low.low) / 2 in
    let within : middle < length c.args.names.now = omega arith in
    found_in_order c.args.heads.now c.args.names.now c.requires c.args.name.now middle within (sym c.compare_at.ensures ∙ c.in-Equal.is)

pub loop-low-preserved : goal.loop-low-preserved
loop-low-preserved c =
    let middle = c.loop-low.low + (c.loop-low.high - c.loop-low.low) / 2 in
    record {
      order = omega arith;
      within = omega arith;
      below = c.loop-low.invariant.below;
      above = greater_behind c.args.heads.now c.args.names.now c.requires c.args.name.now middle (sym c.compare_at.ensures ∙ c.in-Greater.is);
    }

pub returns : goal.returns
returns c =
    not_in_order c.args.heads.now c.args.names.now c.requires c.args.name.now c.loop-low.low c.loop-low.high c.loop-low-test.false c.loop-low.invariant.below c.loop-low.invariant.above
