use Rattle.woven_calls.specs.Laws.{woven_behaves}
use Rattle.woven_calls.proofs.laws.woven_behaves.Goals as goal

pub returns : goal.returns
returns c = woven_behaves
