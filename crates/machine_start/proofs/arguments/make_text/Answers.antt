use Rattle.machine_start.proofs.Made.{text_kept, text_made}
use Rattle.machine_start.proofs.arguments.make_text.Goals as goal

pub returns-clause-made : goal.returns-clause-made
returns-clause-made c = text_made c.args.world.now c.args.heap.now c.args.units.now c.make_string.new.heap c.in_ok-at.at c.in_ok-at.ensures.within c.in_ok-at.ensures.made

pub returns-clause-kept : goal.returns-clause-kept
returns-clause-kept c = text_kept c.args.world.now c.args.heap.now c.args.units.now c.make_string.new.heap c.in_ok-at.at c.in_ok-at.ensures.made
