-- The paths rise, so the names that they make do.
use Rattle.aj_outside.proofs.Joined.{listed-rising, listed-under}
use Rattle.aj_outside.proofs.folder_shelves.first_names.Goals as goal

pub returns-clause-rising : goal.returns-clause-rising
returns-clause-rising c = listed-rising c.args.folder.now _ c.loop-rest.rest-iterator _ c.loop-rest.invariant.left c.iter-rest-items.ensures.ordered

pub returns-clause-under : goal.returns-clause-under
returns-clause-under c = listed-under c.args.folder.now _ c.loop-rest.rest-iterator _ c.loop-rest.invariant.left
