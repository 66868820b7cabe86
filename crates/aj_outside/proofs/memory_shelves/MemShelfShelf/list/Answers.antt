-- The files are in order, so the names that are listed are.
use Rattle.aj_outside.specs.FileLaws.{AreRising_listed, all_under_listed}
use Rattle.aj_outside.proofs.memory_shelves.MemShelfShelf.list.Goals as goal

pub returns-clause-rising : goal.returns-clause-rising
returns-clause-rising c = AreRising_listed _ _ _ _ c.in-Ok.ensures.given c.self.invariant.2

pub returns-clause-under : goal.returns-clause-under
returns-clause-under c = all_under_listed _ _ _ _ c.in-Ok.ensures.given
