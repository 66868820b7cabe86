use Rattle.machine_rules.proofs.Giving.{given_text}
use Rattle.machine_rules.proofs.strings.give_text.Goals as goal

pub returns-clause-work : goal.returns-clause-work
returns-clause-work c = given_text c.args.world.now c.args.heap.now c.args.units.now c.make_string.new.heap c.in_ok-at.at c.in_ok-at.ensures.made
