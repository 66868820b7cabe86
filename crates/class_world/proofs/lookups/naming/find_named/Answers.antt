use Rattle.aj_names.specs.Hierarchy.{IsNamed}
use Rattle.class_world.proofs.Dotted.{none_among}
use Rattle.class_world.proofs.lookups.naming.find_named.Goals as goal

pub returns-clause-none : goal.returns-clause-none
returns-clause-none c =
    λ _ class known. none_among (IsNamed c.args.«package».now c.args.name.now c.args.dollars) c.args.heads.now c.loop-head.head-index c.loop-head-test.false c.loop-head.invariant class known
