use Rattle.class_file.specs.Lookup.{reference_seen}
use Rattle.machine_invokes.proofs.Searched.{missing_on, chosen_on}
use Rattle.machine_invokes.proofs.choosing.choose_on.Goals as goal

pub returns-in_default-clause-chosen : goal.returns-in_default-clause-chosen
returns-in_default-clause-chosen c = missing_on c.args.world.now (reference_seen c.args.named) c.args.frame.now c.args.heap.now c.args.special c.args.at c.in_default.ensures.found

pub returns-clause-chosen : goal.returns-clause-chosen
returns-clause-chosen c =
    chosen_on c.args.world.now (reference_seen c.args.named) c.args.frame.now c.args.heap.now c.args.special c.args.at c.in-Some.found.0 c.choose_from.result c.in-Some.ensures.found c.choose_from.ensures.chosen
